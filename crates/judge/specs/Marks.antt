-- Marked events: more of them than numbers that are open to them leave no renumbering allowed.
use Rattle.std.specs.Prelude.{ℕ, ◌-◌, ◌<◌, Bool, false, ◌||◌, List, [], ◌∷◌, length, filter, ◌==◌, slice_index}
use Rattle.tables.specs.declared.grade.Grade.{Grade}
use Rattle.judge.specs.Renumbering.{up_to}
use Rattle.judge.specs.Allowed.{opens}

-- the mark of event r is 1
abbrev pub is_marked : List ℕ → ℕ → Bool
is_marked marks r = slice_index marks (r - 1) == 1

-- the events that the test tells
abbrev pub events_in : ℕ → (ℕ → Bool) → List ℕ
events_in s inside = filter inside (up_to s)

-- the marked events
abbrev pub marked : ℕ → List ℕ → List ℕ
marked s marks = events_in s (is_marked marks)

-- number c is open to one of the events
abbrev pub open_to : (ℕ → ℕ → Bool) → List ℕ → ℕ → Bool
open_to open_at [] c = false
open_to open_at (r ∷ rs) c = open_at r c || open_to open_at rs c

-- the numbers that are open to one of the events, each once
abbrev pub open_numbers : (ℕ → ℕ → Bool) → ℕ → List ℕ → List ℕ
open_numbers open_at s events = filter (open_to open_at events) (up_to s)

-- the events have fewer open numbers than there are of them
abbrev pub Short : (ℕ → ℕ → Bool) → ℕ → List ℕ → Type 0
Short open_at s events = length (open_numbers open_at s events) < length events

-- the marked events have too few open numbers
abbrev pub Violator : {C : Type 0} → (ℕ → ℕ → Grade C) → ℕ → List ℕ → Type 0
Violator g s marks = Short (opens g) s (marked s marks)
