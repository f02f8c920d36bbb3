-- Pins: the number that each event is pinned to, if any, and what a table means under them.
use Rattle.std.specs.Prelude.{ℕ, zero, suc, Bool, false, cond, ◌&&◌, ◌||◌, List, is_some, is_ok, Some, None, Ok, Err, Option, Result, ◌==◌, slice_index_or}
use Rattle.tables.specs.Table.{Table, within}
use Rattle.tables.specs.declared.grade.Grade.{Grade}
use Rattle.tables.specs.declared.grade.Grade.TheVariants.{Closed}

-- pins that are kept in a list, the one of event r at place r
abbrev pub pins_in : List (Option ℕ) → ℕ → Option ℕ
pins_in xs r = slice_index_or xs r None

abbrev pub no_pins : ℕ → Option ℕ
no_pins r = None

-- the pins with that of event r replaced
abbrev pub repin : (ℕ → Option ℕ) → ℕ → Option ℕ → ℕ → Option ℕ
repin pins r pin e = cond (e == r) pin (pins e)

-- a pin leaves the event's pair with its own number, and closes the others
abbrev pub under_pin : {C : Type 0} → Option ℕ → ℕ → Grade C → Grade C
under_pin None c g = g
under_pin (Some d) c g = cond (d == c) g Closed

-- the table under pins
abbrev pub pinned : {C : Type 0} → Table C → (ℕ → Option ℕ) → Table C
pinned t pins = record {
  size = t.size;
  places = t.places;
  window = t.window;
  pairing = λ w r c. under_pin (pins r) c (t.pairing w r c);
}

-- a pin to the number c
abbrev pub pins_to : ℕ → Option ℕ → Bool
pins_to c None = false
pins_to c (Some d) = d == c

-- one of the events 1 to n is pinned to c
abbrev pub is_taken : ℕ → (ℕ → Option ℕ) → ℕ → Bool
is_taken zero pins c = false
is_taken (suc n) pins c = pins_to c (pins (suc n)) || is_taken n pins c

-- what pin answers: 10 outside 1 to s, 11 where the event is pinned, 12 where another event has the number
abbrev pub pin_answer : ℕ → (ℕ → Option ℕ) → ℕ → ℕ → Result (Unit {0}) ℕ
pin_answer s pins r c =
    cond (within s r && within s c)
    (cond (is_some (pins r)) (Err 11) (cond (is_taken s pins c) (Err 12) (Ok tt)))
    (Err 10)

-- the pins after pin
abbrev pub after_pin : ℕ → (ℕ → Option ℕ) → ℕ → ℕ → ℕ → Option ℕ
after_pin s pins r c = cond (is_ok (pin_answer s pins r c)) (repin pins r (Some c)) pins

-- what unpin answers: 10 outside 1 to s, 13 where the event is not pinned
abbrev pub unpin_answer : ℕ → (ℕ → Option ℕ) → ℕ → Result (Unit {0}) ℕ
unpin_answer s pins r = cond (within s r) (cond (is_some (pins r)) (Ok tt) (Err 13)) (Err 10)

-- the pins after unpin
abbrev pub after_unpin : ℕ → (ℕ → Option ℕ) → ℕ → ℕ → Option ℕ
after_unpin s pins r = cond (is_ok (unpin_answer s pins r)) (repin pins r None) pins

-- the pin of an event that is read: none outside 1 to s
abbrev pub pin_at : ℕ → (ℕ → Option ℕ) → ℕ → Option ℕ
pin_at s pins r = cond (within s r) (pins r) None
