-- The grades of all pairs in one list, row after row, and what a renumbering makes of them.
use Rattle.std.specs.Prelude.{ℕ, ◌+◌, ◌-◌, ◌*◌, ◌≤◌, cond, List, length, slice_index_or}
use Rattle.costs.specs.Kind.{Kind}
use Rattle.tables.specs.Limits.{max_size}
use Rattle.tables.specs.declared.grade.Grade.{Grade}
use Rattle.tables.specs.declared.grade.Grade.TheVariants.{Closed, Open}
use Rattle.judge.specs.Allowed.{cost_of, allowed, cost}
use Rattle.judge.specs.Rows.{listed}

-- the grade of event r with number c, in a list of all rows
abbrev pub grade_in : {C : Type 0} → List (Grade C) → ℕ → ℕ → ℕ → Grade C
grade_in grades s r c = slice_index_or grades ((r - 1) * s + (c - 1)) Closed

-- the list has s rows of s grades
pub record Grid {C : Type 0} (grades : List (Grade C)) (s : ℕ) : Type 0 where
  pub small : s ≤ max_size
  pub whole : s * s ≤ length grades

-- the grade of a renumbering: open at its cost where each of its pairs is open, otherwise closed
abbrev pub renumbering_grade : {C : Type 0} → Kind C → (ℕ → ℕ → Grade C) → List ℕ → Grade C
renumbering_grade k g ns = cond (allowed g ns) (Open (cost k g ns)) Closed

-- the price of event r: what its pair costs less the price of its number
abbrev pub event_price : {C : Type 0} → Kind C → (ℕ → ℕ → Grade C) → List ℕ → (ℕ → C) → ℕ → C
event_price k g ns v r = k.minus (cost_of k (g r (listed ns 0 r))) (v (listed ns 0 r))
