-- Plain costs keep the laws of a cost kind.
use Rattle.std.specs.Prelude.{◌≡◌, ℕ, ◌+◌, ◌<◌, ◌≤◌, Bool, true, false, T, ◌⊎◌, ℤ, pos, ◌+ℤ◌, ◌-ℤ◌, Some, int_le, unsigned_abs, refl}
use Rattle.std.proofs.Common.{sym, ◌∙◌, ap, inl, inr, arith, leb→le, le→leb}
use mathlib.Core.HLevel.{is_prop→PathP}
use Rattle.std.proofs.Math.Bridge.{le_prop}
use Rattle.std.proofs.lemmas.Int.{ints}
use Rattle.costs.specs.Kind.{Laws, limit}
use Rattle.costs.specs.Plain.{size, if_small, if_any, sum_small, opposite, plain_plus, plain_minus, plain_at_most, plain_kind, plain_from, plain_of}
use Rattle.costs.specs.declared.plain.Plain.{Plain}

pub plain_same : (a b : Plain) → a.value ≡ b.value → a ≡ b
plain_same a b p = λ i. record { value = p i; small = is_prop→PathP (λ j. unsigned_abs (p j) ≤ limit) (λ j. le_prop) a.small b.small i }

if_small_value : (z : ℤ) (b : Bool) (h : T b → unsigned_abs z ≤ limit) → T b → (if_small z b h).value ≡ z
if_small_value z true h t = refl
if_small_value z false h t = absurd t

if_small_not : (z : ℤ) (b : Bool) (h : T b → unsigned_abs z ≤ limit) → ¬ (T b) → if_small z b h ≡ plain_of 0
if_small_not z true h n = absurd (n tt)
if_small_not z false h n = refl

pub plus_value : (a b : Plain) → size a + size b ≤ limit → (plain_plus a b).value ≡ a.value +ℤ b.value
plus_value a b f = if_small_value _ _ (sum_small a b) (le→leb _ _ f)

opposite_size : (a : Plain) → size (opposite a) ≡ size a
opposite_size a = omega (arith, ints)

pub minus_value : (a b : Plain) → size a + size b ≤ limit → (plain_minus a b).value ≡ a.value -ℤ b.value
minus_value a b f =
    let s = opposite_size b in
    let p = plus_value a (opposite b) (omega arith) in
    omega (arith, ints)

pub plus_over : (a b : Plain) → limit < size a + size b → plain_plus a b ≡ plain_of 0
plus_over a b o = if_small_not (a.value +ℤ b.value) _ (sum_small a b) (λ t. let h = leb→le (size a + size b) limit t in omega arith)

pub minus_over : (a b : Plain) → limit < size a + size b → plain_minus a b ≡ plain_of 0
minus_over a b o = let s = opposite_size b in plus_over a (opposite b) (omega arith)

-- a sum as the code forms it
pub plus_by : (a b p : Plain) → size a + size b ≤ limit → p.value ≡ a.value +ℤ b.value → p ≡ plain_plus a b
plus_by a b p f e = plain_same p (plain_plus a b) (e ∙ sym (plus_value a b f))

-- an opposite as the code forms it
pub opposite_by : (a p : Plain) → p.value ≡ pos 0 -ℤ a.value → p ≡ opposite a
opposite_by a p e = plain_same p (opposite a) e

sum_span : (a b : Plain) → size a + size b ≤ limit → size (plain_plus a b) ≤ size a + size b
sum_span a b f = rw (plus_value a b f) (omega (arith, ints))

difference_span : (a b : Plain) → size a + size b ≤ limit → size (plain_minus a b) ≤ size a + size b
difference_span a b f = rw (minus_value a b f) (omega (arith, ints))

sum_comm : (a b : Plain) → size a + size b ≤ limit → plain_plus a b ≡ plain_plus b a
sum_comm a b f =
    let g : size b + size a ≤ limit = omega arith in
    let p = plus_value a b f in
    let q = plus_value b a g in
    plain_same _ _ (omega (arith, ints, p, q))

sum_assoc : (a b c : Plain) → size a + size b ≤ limit → size (plain_plus a b) + size c ≤ limit → size b + size c ≤ limit → size a + size (plain_plus b c) ≤ limit → plain_plus (plain_plus a b) c ≡ plain_plus a (plain_plus b c)
sum_assoc a b c f g h k =
    let p = plus_value a b f in
    let q = plus_value (plain_plus a b) c g in
    let r = plus_value b c h in
    let s = plus_value a (plain_plus b c) k in
    plain_same _ _ (omega (arith, ints, p, q, r, s))

sum_zero : (a : Plain) → size a + size (plain_of 0) ≤ limit → plain_plus a (plain_of 0) ≡ a
sum_zero a f = let p = plus_value a (plain_of 0) f in plain_same _ _ (omega (arith, ints, p))

pub gives_back : (a b : Plain) → size a + size b ≤ limit → size (plain_minus a b) + size b ≤ limit → plain_plus (plain_minus a b) b ≡ a
gives_back a b f g =
    let p = minus_value a b f in
    let q = plus_value (plain_minus a b) b g in
    plain_same _ _ (omega (arith, ints, p, q))

pub keeps_order : (a b c : Plain) → size a + size c ≤ limit → size b + size c ≤ limit → plain_at_most a b ≡ true → plain_at_most (plain_plus a c) (plain_plus b c) ≡ true
keeps_order a b c f g o =
    let p = plus_value a c f in
    let q = plus_value b c g in
    sym (omega (arith, ints, p, q))

pub keeps_apart : (a b c : Plain) → size a + size c ≤ limit → size b + size c ≤ limit → plain_plus a c ≡ plain_plus b c → a ≡ b
keeps_apart a b c f g e =
    let p = plus_value a c f in
    let q = plus_value b c g in
    let same : (plain_plus a c).value ≡ (plain_plus b c).value = ap (λ (x : Plain). x.value) e in
    plain_same _ _ (omega (arith, ints, p, q, same))

leZ_total : (x y : ℤ) (b : Bool) → int_le x y ≡ b → (int_le x y ≡ true) ⊎ (int_le y x ≡ true)
leZ_total x y true e = inl e
leZ_total x y false e = inr (sym (omega (arith, ints)))

pub at_most_total : (a b : Plain) → (plain_at_most a b ≡ true) ⊎ (plain_at_most b a ≡ true)
at_most_total a b = leZ_total a.value b.value _ refl

pub at_most_same : (a b : Plain) → plain_at_most a b ≡ true → plain_at_most b a ≡ true → a ≡ b
at_most_same a b p q = plain_same _ _ (omega (arith, ints))

pub at_most_trans : (a b c : Plain) → plain_at_most a b ≡ true → plain_at_most b c ≡ true → plain_at_most a c ≡ true
at_most_trans a b c p q = sym (omega (arith, ints))

pub plain_laws : Laws plain_kind
plain_laws = record {
  zero_span = refl;
  plus_span = sum_span;
  minus_span = difference_span;
  plus_beyond = plus_over;
  minus_beyond = minus_over;
  plus_comm = sum_comm;
  plus_assoc = sum_assoc;
  plus_zero = sum_zero;
  minus_plus = gives_back;
  plus_order = keeps_order;
  plus_apart = keeps_apart;
  order_total = at_most_total;
  order_antisym = at_most_same;
  order_trans = at_most_trans;
}

if_any_some : (z : ℤ) (b : Bool) (h : T b → unsigned_abs z ≤ limit) (p : Plain) → T b → p.value ≡ z → Some p ≡ if_any z b h
if_any_some z true h p t e = ap Some (plain_same p (record { value = z; small = h tt }) e)
if_any_some z false h p t e = absurd t

-- the cost with that value
pub plain_from_some : (z : ℤ) (p : Plain) → p.value ≡ z → Some p ≡ plain_from z
plain_from_some z p e = if_any_some z _ (leb→le (unsigned_abs z) limit) p (le→leb _ _ (rw (sym e) p.small)) e

pub plain_of_value : (n : ℕ) → n ≤ limit → (plain_of n).value ≡ pos n
plain_of_value n f = if_small_value _ _ (leb→le n limit) (le→leb _ _ f)

pub plain_of_size : (n : ℕ) → n ≤ limit → size (plain_of n) ≡ n
plain_of_size n f = ap unsigned_abs (plain_of_value n f)
