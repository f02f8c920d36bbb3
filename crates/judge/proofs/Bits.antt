-- The bits of a row: of a meet, of a join, of a row with one place less, of a power of two and of a row of ones.
use Rattle.std.proofs.Common.{◌≡◌, ℕ, zero, suc, ◌+◌, ◌-◌, ◌*◌, ◌/◌, ◌%◌, ◌^◌, ◌<◌, ◌⊎◌, sym, ap, ◌∙◌, subst, inl, inr, pow-suc, arith}
use lib.Bits.{bit_and, bit_or, and_comm}
use lib.Count.{ones, ones_step}
use Rattle.std.specs.Int.{bit_at, w32}
use Rattle.std.proofs.lemmas.Nat.{pow_below, and-not}
use Rattle.std.proofs.lemmas.Nat.Bits.{bit_at_lowest, bit_at-suc, bit_at-zero, bit_at-lt, bit_at_and, bit_at_or, bit_at_not, bit_at_above, bit_at-pow_same, bit_at-pow_other, and_pow}
use Rattle.std.proofs.lemmas.Bool.{cases_eq, cases_lt}
use Rattle.tables.specs.Limits.{max_size}
use Rattle.judge.specs.BitRows.{Has, Shut}

-- a place of a meet is a place of both
pub and_has : (a b c : ℕ) → Has (bit_and a b) c → Has a c × Has b c
and_has a b c h =
    let meet = bit_at_and a b c in
    let x = bit_at-lt a c in
    let y = bit_at-lt b c in
    (omega arith, omega arith)

-- rows whose meet is empty have no place in common
pub none_common : (a b : ℕ) → bit_and a b ≡ 0 → Shut a b
none_common a b e c h k = omega (arith, bit_at_and a b c, ap (λ (n : ℕ). bit_at n c) e, bit_at-zero c)

-- a join has the places of the one
pub or_left_has : (a b c : ℕ) → Has a c → Has (bit_or a b) c
or_left_has a b c h = omega (arith, bit_at_or a b c, bit_at-lt b c)

-- and those of the other
pub or_right_has : (a b c : ℕ) → Has b c → Has (bit_or a b) c
or_right_has a b c h = omega (arith, bit_at_or a b c, bit_at-lt a c)

-- and no others
pub or_has : (a b c : ℕ) → Has (bit_or a b) c → Has a c ⊎ Has b c
or_has a b c h = elim (cases_eq (bit_at a c) 1) [
  | inl e ↦ inl e
  | inr n ↦ inr (omega (arith, bit_at_or a b c, bit_at-lt a c, bit_at-lt b c))
]

-- a power of two has its place
pub power_has : (k : ℕ) → Has (2 ^ k) k
power_has = bit_at-pow_same

-- and no other
pub power_only : (k c : ℕ) → Has (2 ^ k) c → c ≡ k
power_only k c h = elim (cases_eq c k) [ inl same ↦ same | inr other ↦ absurd (omega (arith, bit_at-pow_other k c other)) ]

-- a row below 2 ^ w has places below w alone
pub has_below : (w row c : ℕ) → row < 2 ^ w → Has row c → c < w
has_below w row c l h = elim (cases_lt c w) [ inl m ↦ m | inr m ↦ absurd (omega (arith, bit_at_above row w c l m)) ]

-- all places but one
abbrev all_but : ℕ → ℕ
all_but k = 2 ^ max_size - 1 - 2 ^ k

-- with one bit less, one fewer is counted
pub ones_less : (c n r : ℕ) → Has n c → r + 2 ^ c ≡ n → ones r < ones n
ones_less zero n r h e =
    let s : r / 2 ≡ n / 2 = omega (arith, bit_at_lowest n) in
    omega (arith, bit_at_lowest n, ones_step n, ones_step r, ap ones s)
ones_less (suc c) n r h e =
    let p = pow-suc 2 c in
    let i = ones_less c (n / 2) (r / 2) (sym (bit_at-suc n c) ∙ h) (omega arith) in
    let d : r % 2 ≡ n % 2 = omega arith in
    omega (arith, ones_step n, ones_step r, i)

module _ (n k : ℕ) (small : n < 2 ^ max_size) (h : Has n k) where
  inside : k < max_size
  inside = has_below max_size n k small h

  -- what stands for a place of all but one
  but_bit : (c : ℕ) → c < max_size → bit_at (all_but k) c ≡ 1 - bit_at (2 ^ k) c
  but_bit c l = bit_at_not w32 (2 ^ k) c (pow_below k max_size inside) l

  -- without one of its places a row has fewer
  pub less_ones : ones (bit_and n (all_but k)) < ones n
  less_ones =
      let place : bit_and n (2 ^ k) ≡ 2 ^ k = omega (arith, and_pow n k, ap (λ (b : ℕ). b * 2 ^ k) h) in
      ones_less k n (bit_and n (all_but k)) h (omega (arith, place, and-not max_size (2 ^ k) n (pow_below k max_size inside) small, and_comm n (2 ^ k), and_comm n (all_but k)))

  -- and no others
  pub less_in : (c : ℕ) → Has (bit_and n (all_but k)) c → Has n c × (c ≡ k → ⊥)
  less_in c g =
      let both = and_has n (all_but k) c g in
      (both.0, λ (same : c ≡ k). omega (arith, subst (λ (d : ℕ). Has (all_but k) d) same both.1, but_bit k inside, power_has k))

  -- the others stay
  pub less_others : (c : ℕ) → Has n c → (c ≡ k → ⊥) → Has (bit_and n (all_but k)) c
  less_others c g other = omega (arith, bit_at_and n (all_but k) c, but_bit c (has_below max_size n c small g), bit_at-pow_other k c other)
