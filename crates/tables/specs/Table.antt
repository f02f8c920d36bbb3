-- What a trace table means.
use Rattle.std.specs.Prelude.{◌≡◌, ℕ, ◌+◌, ◌-◌, ◌*◌, ◌≤◌, Bool, cond, ◌&&◌, List, [], ◌∷◌, ◌++◌, map, length, drop, Ok, Err, Result, nat_le, slice_index_or}
use Rattle.std.specs.List.{range_with_len, AllByRecursion}
use Rattle.costs.specs.Kind.{Kind}
use Rattle.tables.specs.Limits.{max_size, max_places, pair_limit}
use Rattle.tables.specs.declared.grade.Grade.{Grade}
use Rattle.tables.specs.declared.grade.Grade.TheVariants.{Closed, Open}

-- the size S, the number of places M, the window (oldest event first), and the pairing: the grade of an event and a
-- number at each list that can be a window
pub record Table (C : Type 0) : Type 0 where
  pub size : ℕ
  pub places : ℕ
  pub window : List ℕ
  pub pairing : List ℕ → ℕ → ℕ → Grade C

-- n is one of 1 to s
abbrev pub Within : ℕ → ℕ → Type 0
Within s n = (1 ≤ n) × (n ≤ s)

-- the same as a test
abbrev pub within : ℕ → ℕ → Bool
within s n = nat_le 1 n && nat_le n s

-- a list that can be a window: at most M events, each 1 to S
pub record Window (size places : ℕ) (w : List ℕ) : Type 0 where
  pub few : length w ≤ places
  pub events : AllByRecursion (Within size) w

-- a grade that is closed, or open at a cost of at most that span
abbrev pub Spans : {C : Type 0} → Kind C → ℕ → Grade C → Type 0
Spans k n Closed = Unit {0}
Spans k n (Open c) = k.span c ≤ n

-- what holds of every trace table
pub record Sound {C : Type 0} (k : Kind C) (t : Table C) : Type 0 where
  pub size_from : 1 ≤ t.size
  pub size_to : t.size ≤ max_size
  pub places_from : 1 ≤ t.places
  pub places_to : t.places ≤ max_places
  pub held : Window t.size t.places t.window
  pub spans : (w : List ℕ) → Window t.size t.places w → (r c : ℕ) → Within t.size r → Within t.size c → Spans k pair_limit (t.pairing w r c)

-- the last n elements of a list
abbrev pub last : {X : Type 0} → ℕ → List X → List X
last n xs = drop (length xs - n) xs

-- the table at another window
abbrev pub with_window : {C : Type 0} → Table C → List ℕ → Table C
with_window t w = record { size = t.size; places = t.places; window = w; pairing = t.pairing }

-- what take answers: refused with 5 exactly when the event is 0 or above S
abbrev pub take_answer : {C : Type 0} → Table C → ℕ → Result (Unit {0}) ℕ
take_answer t e = cond (within t.size e) (Ok tt) (Err 5)

-- the table after take: the last M events of its window followed by e, and the same table where e is refused
abbrev pub taken : {C : Type 0} → Table C → ℕ → Table C
taken t e = cond (within t.size e) (with_window t (last t.places (t.window ++ (e ∷ [])))) t

-- what pair answers: the pairing at the window if both are 1 to S, otherwise closed
abbrev pub pair_at : {C : Type 0} → Table C → ℕ → ℕ → Grade C
pair_at t r c = cond (within t.size r && within t.size c) (t.pairing t.window r c) Closed

-- what row writes into n places: the pairs of event r with the numbers 1 to n
unfoldable pub row_at : {C : Type 0} → Table C → ℕ → ℕ → List (Grade C)
row_at t r n = map (pair_at t r) (range_with_len 1 n)

-- what grid writes: the rows of all events one after another, the pair of event r and number c at place (r - 1) * S + (c - 1)
abbrev pub GridOf : {C : Type 0} → Table C → List (Grade C) → Type 0
GridOf t grades = (r c : ℕ) → Within t.size r → Within t.size c → slice_index_or grades ((r - 1) * t.size + (c - 1)) Closed ≡ pair_at t r c
