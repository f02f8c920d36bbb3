-- What settling starts from and ends with.
use Rattle.std.specs.Prelude.{◌≡◌, ℕ, zero, suc, ◌-◌, ◌<◌, ◌≤◌, Bool, true, false, cond, List, length, Some, None, Option, ◌==◌, ◌≢◌, slice_index_or, slice_set, replicate}
use Rattle.costs.specs.Kind.{Kind}
use Rattle.tables.specs.Table.{Within}
use Rattle.tables.specs.declared.grade.Grade.{Grade}
use Rattle.judge.specs.declared.grading.Pairs.{Pairs}
use Rattle.judge.specs.declared.settling.Seats.{Seats}
use Rattle.judge.specs.declared.settling.Reach.{Reach}
use Rattle.judge.specs.declared.settling.Reach.TheVariants.{Unseen, Reached, Scanned}
use Rattle.judge.specs.Renumbering.{Renumbering}
use Rattle.judge.specs.Grades.{grade_in}
use Rattle.judge.specs.Allowed.{allowed}
use Rattle.judge.specs.Prices.{Bounded}
use Rattle.judge.specs.Seating.{Seating}
use Rattle.judge.specs.Tree.{Nearest, Going}
use Rattle.judge.specs.Rows.{Agree, listed, listed_cost, or_none, listed_or_none, path_by, gone_over, found_by}

-- the grade of event r with number c
abbrev pub graded : {C : Type 0} → Pairs C → ℕ → ℕ → Grade C
graded pairs = grade_in pairs.grades.now pairs.size

-- costs are bounded, and some renumbering is allowed
pub record Solvable {C : Type 0} (k : Kind C) (g : ℕ → ℕ → Grade C) (s : ℕ) : Type 0 where
  pub bounded : Bounded k g s
  pub numbers : List ℕ
  pub renumbers : Renumbering s numbers
  pub is_allowed : allowed g numbers ≡ true

-- seats before any event has a number
abbrev pub fresh_seats : Seats
fresh_seats = record { numbers = replicate 32 None; holders = replicate 32 None }

-- the number of each event, 0 for none
abbrev pub seat_in : Seats → ℕ → ℕ
seat_in seats = listed_or_none seats.numbers

-- the event that has each number, 0 for none
abbrev pub holder_in : Seats → ℕ → ℕ
holder_in seats = listed_or_none seats.holders

-- no 0 stands for a holder
abbrev pub Named : List (Option ℕ) → Type 0
Named xs = (j i : ℕ) → slice_index_or xs j None ≡ Some i → 1 ≤ i

-- the seats and the prices v of numbers belong to a seating
pub record Seated {C : Type 0} (k : Kind C) (g : ℕ → ℕ → Grade C) (s : ℕ) (seats : Seats) (v : ℕ → C) : Type 0 where
  pub u : ℕ → C
  pub seating : Seating k g s (seat_in seats) (holder_in seats) u v
  pub named : Named seats.holders
  pub long_numbers : s ≤ length seats.numbers
  pub long_holders : s ≤ length seats.holders

-- whether a number is scanned
abbrev pub is_scanned : Reach → Bool
is_scanned Unseen = false
is_scanned (Reached i) = false
is_scanned (Scanned i) = true

-- the event that found the path to a number
abbrev pub finder_of : Reach → Option ℕ
finder_of Unseen = None
finder_of (Reached i) = Some i
finder_of (Scanned i) = Some i

-- whether each number is scanned
abbrev pub scanned_in : List Reach → ℕ → Bool
scanned_in known c = is_scanned (listed known Unseen c)

-- the event that found the path to each number, 0 for none
abbrev pub finder_in : List Reach → ℕ → ℕ
finder_in known c = or_none (finder_of (listed known Unseen c))

-- the path to each number
abbrev pub path_in : {C : Type 0} → Kind C → List Reach → List C → ℕ → Option C
path_in k known paths c = path_by (finder_of (listed known Unseen c)) (listed_cost k paths c)

-- the row of event i with lead l was gone over: what was known of the numbers and the paths, and what is
pub record Relaxed {C : Type 0} (k : Kind C) (g : ℕ → ℕ → Grade C) (s i : ℕ) (l : C) (known : List Reach) (paths : List C) (known₂ : List Reach) (paths₂ : List C) : Type 0 where
  pub scanned : (c : ℕ) → 1 ≤ c → scanned_in known₂ c ≡ scanned_in known c
  pub path : Agree s (path_in k known₂ paths₂) (gone_over k g i l (scanned_in known) (path_in k known paths))
  pub finder : Agree s (finder_in known₂) (found_by k g i l (scanned_in known) (path_in k known paths) (finder_in known))

-- event r has no number yet, and can be given one
pub record Ready {C : Type 0} (k : Kind C) (pairs : Pairs C) (r : ℕ) (seats : Seats) (prices : List C) : Type 0 where
  pub solvable : Solvable k (graded pairs) pairs.size
  pub event : Within pairs.size r
  pub unseated : seat_in seats r ≡ 0
  pub seated : Seated k (graded pairs) pairs.size seats (listed_cost k prices)
  pub prices_long : pairs.size ≤ length prices

-- the search for event r over these seats and prices goes on, with t numbers scanned
abbrev pub Searching : {C : Type 0} → Kind C → (ℕ → ℕ → Grade C) → ℕ → ℕ → ℕ → Seats → (ℕ → C) → List Reach → List C → Type 0
Searching k g s t r seats v known paths = Going k g s t r (seat_in seats) (holder_in seats) v (scanned_in known) (path_in k known paths) (finder_in known)

-- the search for event r found the free number at place j, nearest of all
pub record Found {C : Type 0} (k : Kind C) (g : ℕ → ℕ → Grade C) (s r : ℕ) (seats : Seats) (v : ℕ → C) (known : List Reach) (paths : List C) (j : ℕ) : Type 0 where
  pub scans : ℕ
  pub searching : Searching k g s scans r seats v known paths
  pub below : j < s
  pub cost : C
  pub nearest : Nearest k s v (scanned_in known) (path_in k known paths) (suc j) cost
  pub free : holder_in seats (suc j) ≡ 0

-- event i takes number j
abbrev pub take_number : Seats → ℕ → ℕ → Seats
take_number seats i j = record { numbers = slice_set seats.numbers (i - 1) (Some j); holders = slice_set seats.holders (j - 1) (Some i) }

-- the way back from number j, f events long at most: each takes the number that it found and leaves its own to the next, up to event r
abbrev pub turned : ℕ → (ℕ → ℕ) → ℕ → Seats → ℕ → Seats
turned zero by r seats j = seats
turned (suc f) by r seats j = cond (by j == r) (take_number seats (by j) j) (turned f by r (take_number seats (by j) j) (seat_in seats (by j)))

-- that way leads over events and numbers of 1 to s, and ends at event r
abbrev pub WayBack : ℕ → ℕ → (ℕ → ℕ) → ℕ → Seats → ℕ → Type 0
WayBack zero s by r seats j = ⊥
WayBack (suc f) s by r seats j = Within s j × Within s (by j) × ((by j ≢ r) → WayBack f s by r (take_number seats (by j) j) (seat_in seats (by j)))
