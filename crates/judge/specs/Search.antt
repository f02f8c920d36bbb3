-- What a search for a number for event r does: it finds cheaper and cheaper paths to numbers, and at its end it sets new prices.
use Rattle.std.specs.Prelude.{ℕ, Bool, true, false, cond, not, ◌&&◌, ◌||◌, Some, None, Option, ◌==◌, nat_le}
use Rattle.costs.specs.Kind.{Kind}
use Rattle.tables.specs.declared.grade.Grade.{Grade}
use Rattle.tables.specs.declared.grade.Grade.TheVariants.{Closed, Open}

-- the path to a number: the one known, or the one over an event with lead l where that is less
abbrev pub relax : {C : Type 0} → Kind C → Option C → Grade C → C → Option C
relax k o Closed l = o
relax k None (Open x) l = Some (k.plus l x)
relax k (Some q) (Open x) l = Some (cond (k.at_most q (k.plus l x)) q (k.plus l x))

-- the one over the event is less
abbrev pub better : {C : Type 0} → Kind C → Option C → Grade C → C → Bool
better k o Closed l = false
better k None (Open x) l = true
better k (Some q) (Open x) l = not (k.at_most q (k.plus l x))

-- the events that the search has reached: r, and the holders of numbers done
abbrev pub reached : ℕ → (ℕ → ℕ) → (ℕ → Bool) → ℕ → Bool
reached r seat done i = i == r || (nat_le 1 (seat i) && done (seat i))

-- a number's price after a search that ended on a path of cost e
abbrev pub lowered : {C : Type 0} → Kind C → Bool → Option C → C → C → C
lowered k true (Some p) e w = k.minus p e
lowered k true None e w = w
lowered k false p e w = w

-- the prices of all numbers after it
abbrev pub repriced : {C : Type 0} → Kind C → (ℕ → Bool) → (ℕ → Option C) → C → (ℕ → C) → ℕ → C
repriced k done path e v c = lowered k (done c) (path c) e (v c)

-- the prices of all events after it
abbrev pub raised : {C : Type 0} → Kind C → (ℕ → Bool) → (ℕ → C) → C → (ℕ → C) → ℕ → C
raised k inside lead e u i = cond (inside i) (k.minus e (lead i)) (u i)
