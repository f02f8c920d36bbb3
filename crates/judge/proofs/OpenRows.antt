-- The bit row of the open numbers of a row, one number after another.
use Rattle.std.proofs.Common.{◌≡◌, ℕ, ◌+◌, ◌-◌, ◌*◌, ◌/◌, ◌%◌, ◌^◌, ◌<◌, eqb, List, get_or, sym, ap, ◌∙◌, inl, inr, arith}
use native.Mathlib.Nat.{div-eq_of_lt}
use lib.Bits.{bit_or}
use Rattle.std.proofs.lemmas.Nat.{one_shl, or_lt, pow_below}
use Rattle.std.proofs.lemmas.Bool.{eq-eqb}
use Rattle.std.proofs.lemmas.Bool.Decides.{same_from_decides, Decides-eqb, Decides-like}
use Rattle.tables.specs.Table.{Within}
use Rattle.tables.specs.declared.grade.Grade.{Grade}
use Rattle.tables.specs.declared.grade.Grade.TheVariants.{Closed, Open}
use Rattle.judge.specs.Allowed.{is_open}
use Rattle.judge.specs.BitRows.{stands_in}
use Rattle.judge.specs.Rows.{listed}
use Rattle.judge.proofs.Bits.{power_has, power_only, or_left_has, or_right_has, or_has}
use Rattle.judge.proofs.Written.{within_more, listed_next}

-- the row with one place more, of which no other place is touched
old_bit : (row n i : ℕ) → i < n → eqb (bit_or row (2 ^ n) / 2 ^ i % 2) 1 ≡ eqb (row / 2 ^ i % 2) 1
old_bit row n i h =
    same_from_decides _ _
    (Decides-like _ (λ e. elim (or_has row (2 ^ n) i e) [ inl k ↦ k | inr k ↦ absurd (omega (arith, power_only n i k)) ]) (or_left_has row (2 ^ n) i) (Decides-eqb (bit_or row (2 ^ n) / 2 ^ i % 2) 1))
    (Decides-eqb (row / 2 ^ i % 2) 1)

module _ {C : Type 0} (grades : List (Grade C)) where
  -- the first n numbers are told by the row
  pub record OpenTo (n row : ℕ) : Type 0 where
    pub bits : (c : ℕ) → Within n c → stands_in row c ≡ is_open (listed grades Closed c)
    pub small : row < 2 ^ n

  pub open_none : OpenTo 0 0
  open_none = record { bits = λ c w. absurd (omega (arith, w)); small = omega arith }

  -- the grade at place n, as that of number n + 1
  at_place : (n : ℕ) (x : Grade C) → x ≡ get_or grades n Closed → is_open x ≡ is_open (listed grades Closed (n + 1))
  at_place n x e = ap is_open (e ∙ sym (listed_next grades Closed n))

  -- a closed number leaves the row as it is
  pub open_skip : (n row : ℕ) → Closed ≡ get_or grades n Closed → OpenTo n row → OpenTo (n + 1) row
  open_skip n row e o =
      let at : n + 1 - 1 ≡ n = omega arith in
      let none : row / 2 ^ n ≡ 0 = div-eq_of_lt o.small in
      record {
        bits = within_more (λ c. stands_in row c ≡ is_open (listed grades Closed c)) n o.bits
            (ap (λ (z : ℕ). eqb (row / 2 ^ z % 2) 1) at ∙ ap (λ (z : ℕ). eqb (z % 2) 1) none ∙ at_place n Closed e);
        small = omega (arith, o.small, pow_below n (n + 1) (omega arith));
      }

  -- an open number takes its place in the row
  pub open_more : (n row : ℕ) (x : C) → n < 32 → Open x ≡ get_or grades n Closed → OpenTo n row → OpenTo (n + 1) (bit_or row ((1 * 2 ^ n) % 2 ^ 32))
  open_more n row x wide e o =
      let at : n + 1 - 1 ≡ n = omega arith in
      rw (one_shl n 32 wide) (record {
        bits = within_more (λ c. stands_in (bit_or row (2 ^ n)) c ≡ is_open (listed grades Closed c)) n
            (λ c w. old_bit row n (c - 1) (omega (arith, w)) ∙ o.bits c w)
            (ap (λ (z : ℕ). eqb (bit_or row (2 ^ n) / 2 ^ z % 2) 1) at ∙ eq-eqb _ 1 (or_right_has row (2 ^ n) n (power_has n)) ∙ at_place n (Open x) e);
        small = or_lt (n + 1) row (2 ^ n) (omega (arith, o.small, pow_below n (n + 1) (omega arith))) (pow_below n (n + 1) (omega arith));
      })
