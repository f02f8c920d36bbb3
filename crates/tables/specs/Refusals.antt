-- The number of each refusal, and what a call answers by that number.
use Rattle.std.specs.Prelude.{ℕ, Ok, Err, Result}
use Rattle.tables.specs.declared.refusal.Refusal.{Refusal}
use Rattle.tables.specs.declared.refusal.Refusal.TheVariants.{Event, Size, Trace, Delta, Bound, Outside, EventPinned, NumberTaken, NotPinned, WindowShort, ListShort, Position}

abbrev pub refusal_number : Refusal → ℕ
refusal_number Event = 5
refusal_number Size = 6
refusal_number Trace = 7
refusal_number Delta = 8
refusal_number Bound = 9
refusal_number Outside = 10
refusal_number EventPinned = 11
refusal_number NumberTaken = 12
refusal_number NotPinned = 13
refusal_number WindowShort = 14
refusal_number ListShort = 15
refusal_number Position = 16

-- an answer by its meaning: what an accepted call gives, or the number of the refusal
abbrev pub told : {A B : Type 0} → (A → B) → Result A Refusal → Result B ℕ
told f (Ok a) = Ok (f a)
told f (Err e) = Err (refusal_number e)

-- an answer that is read as it is
abbrev pub answered : {A : Type 0} → Result A Refusal → Result A ℕ
answered (Ok a) = Ok a
answered (Err e) = Err (refusal_number e)
