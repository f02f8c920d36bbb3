-- Which renumberings are allowed, and what they cost: g r c is the grade of event r with number c.
use Rattle.std.specs.Prelude.{ℕ, Bool, true, false, ◌&&◌, List, [], ◌∷◌}
use Rattle.costs.specs.Kind.{Kind}
use Rattle.costs.specs.Sums.{sum_of}
use Rattle.tables.specs.declared.grade.Grade.{Grade}
use Rattle.tables.specs.declared.grade.Grade.TheVariants.{Closed, Open}
use Rattle.judge.specs.Renumbering.{pairs}

-- the pair is open
abbrev pub is_open : {C : Type 0} → Grade C → Bool
is_open Closed = false
is_open (Open x) = true

-- event r is open with number c
abbrev pub opens : {C : Type 0} → (ℕ → ℕ → Grade C) → ℕ → ℕ → Bool
opens g r c = is_open (g r c)

-- the cost of an open pair, zero for a closed one
abbrev pub cost_of : {C : Type 0} → Kind C → Grade C → C
cost_of k Closed = k.zero
cost_of k (Open x) = x

-- each pair of the list is open
abbrev pub all_open : {C : Type 0} → (ℕ → ℕ → Grade C) → List (ℕ × ℕ) → Bool
all_open g [] = true
all_open g (p ∷ ps) = is_open (g p.0 p.1) && all_open g ps

-- each event is open with its number
abbrev pub allowed : {C : Type 0} → (ℕ → ℕ → Grade C) → List ℕ → Bool
allowed g ns = all_open g (pairs ns)

-- the cost of one pair
abbrev pub pair_cost : {C : Type 0} → Kind C → (ℕ → ℕ → Grade C) → ℕ × ℕ → C
pair_cost k g p = cost_of k (g p.0 p.1)

-- the costs of all pairs, added up
abbrev pub cost : {C : Type 0} → Kind C → (ℕ → ℕ → Grade C) → List ℕ → C
cost k g ns = sum_of k (pair_cost k g) (pairs ns)
