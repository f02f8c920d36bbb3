-- Plain costs as a cost kind: whole numbers, the span being the absolute value.
use Rattle.std.specs.Prelude.{ℕ, ◌+◌, ◌≤◌, Bool, true, false, T, ℤ, pos, ◌+ℤ◌, ◌-ℤ◌, Some, None, Option, int_le, nat_le, unsigned_abs}
use Rattle.std.proofs.Common.{arith, leb→le}
use Rattle.std.proofs.lemmas.Int.{ints}
use Rattle.costs.specs.Kind.{Kind, limit}
use Rattle.costs.specs.declared.plain.Plain.{Plain}

-- the absolute value
abbrev pub size : Plain → ℕ
size a = unsigned_abs a.value

-- the cost z where the test holds, and else none
abbrev pub if_any : (z : ℤ) (b : Bool) → (T b → unsigned_abs z ≤ limit) → Option Plain
if_any z true h = Some (record { value = z; small = h tt })
if_any z false h = None

-- the cost z where the test holds, and else zero
abbrev pub if_small : (z : ℤ) (b : Bool) → (T b → unsigned_abs z ≤ limit) → Plain
if_small z true h = record { value = z; small = h tt }
if_small z false h = record { value = pos 0; small = leb→le 0 limit tt }

-- a whole number as a cost, none where its absolute value is above the limit
abbrev pub plain_from : ℤ → Option Plain
plain_from z = if_any z (nat_le (unsigned_abs z) limit) (leb→le (unsigned_abs z) limit)

-- a count as a cost, and zero where it is above the limit
abbrev pub plain_of : ℕ → Plain
plain_of n = if_small (pos n) (nat_le n limit) (leb→le n limit)

pub sum_small : (a b : Plain) → T (nat_le (size a + size b) limit) → unsigned_abs (a.value +ℤ b.value) ≤ limit
sum_small a b t = let h = leb→le (size a + size b) limit t in omega (arith, ints)

abbrev pub plain_plus : Plain → Plain → Plain
plain_plus a b = if_small (a.value +ℤ b.value) (nat_le (size a + size b) limit) (sum_small a b)

pub opposite_small : (a : Plain) → unsigned_abs (pos 0 -ℤ a.value) ≤ limit
opposite_small a = let h = a.small in omega (arith, ints)

abbrev pub opposite : Plain → Plain
opposite a = record { value = pos 0 -ℤ a.value; small = opposite_small a }

-- a difference is the sum with the opposite
abbrev pub plain_minus : Plain → Plain → Plain
plain_minus a b = plain_plus a (opposite b)

abbrev pub plain_at_most : Plain → Plain → Bool
plain_at_most a b = int_le a.value b.value

abbrev pub plain_kind : Kind Plain
plain_kind = record {
  zero = plain_of 0;
  plus = plain_plus;
  minus = plain_minus;
  at_most = plain_at_most;
  span = size;
}
