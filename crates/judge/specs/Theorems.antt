-- What prices and marks prove of the renumberings.
use Rattle.std.specs.Prelude.{◌≡◌, ℕ, ◌≤◌, true, false, List, Some, None}
use Rattle.costs.specs.Kind.{Kind, Laws}
use Rattle.costs.specs.Lists.{In}
use Rattle.costs.specs.Sums.{sum_of}
use Rattle.tables.specs.declared.grade.Grade.{Grade}
use Rattle.judge.specs.Renumbering.{Renumbering, up_to}
use Rattle.judge.specs.Allowed.{allowed, cost}
use Rattle.judge.specs.Prices.{Bounded, Priced, Under, Tight, Cheapest}
use Rattle.judge.specs.Marks.{Violator}
use Rattle.judge.specs.Enumeration.{renumberings}
use Rattle.judge.specs.Least.{least}

-- prices that no open pair undercuts and that a renumbering uses up prove it cheapest, at the sum of all prices
abbrev pub Duality : Type 0 → Type 0
Duality C =
    (k : Kind C) → Laws k → (g : ℕ → ℕ → Grade C) (s : ℕ) (u v : ℕ → C) (ns : List ℕ)
    → s ≤ 64 → Bounded k g s → Priced k s u → Priced k s v → Under k g s u v → Renumbering s ns → allowed g ns ≡ true → Tight k g s ns u v
    → (cost k g ns ≡ k.plus (sum_of k u (up_to s)) (sum_of k v (up_to s))) × Cheapest k g s ns

-- where marked events have too few open numbers no renumbering is allowed
abbrev pub Violators : Type 0 → Type 0
Violators C = (g : ℕ → ℕ → Grade C) (s : ℕ) (marks : List ℕ) → Violator g s marks → (ns : List ℕ) → Renumbering s ns → allowed g ns ≡ false

-- the list has each renumbering, and nothing else
abbrev pub Enumerated : Type 0
Enumerated = (s : ℕ) (ns : List ℕ) → (Renumbering s ns → In ns (renumberings s)) × (In ns (renumberings s) → Renumbering s ns)

-- what a cheapest renumbering costs is the least
abbrev pub CheapestIsLeast : Type 0 → Type 0
CheapestIsLeast C = (k : Kind C) → Laws k → (g : ℕ → ℕ → Grade C) (s : ℕ) (ns : List ℕ) → Cheapest k g s ns → least k g s ≡ Some (cost k g ns)

-- where marked events have too few open numbers there is no least
abbrev pub ViolatorLeavesNone : Type 0 → Type 0
ViolatorLeavesNone C = (k : Kind C) → Laws k → (g : ℕ → ℕ → Grade C) (s : ℕ) (marks : List ℕ) → Violator g s marks → least k g s ≡ None
