-- Prices of events and of numbers, and how they prove a renumbering cheapest.
use Rattle.std.specs.Prelude.{◌≡◌, ℕ, ◌-◌, ◌≤◌, true, List, slice_index}
use Rattle.costs.specs.Kind.{Kind, AtMost}
use Rattle.tables.specs.Limits.{pair_limit}
use Rattle.tables.specs.Table.{Within}
use Rattle.tables.specs.declared.grade.Grade.{Grade}
use Rattle.tables.specs.declared.grade.Grade.TheVariants.{Open}
use Rattle.judge.specs.Renumbering.{Renumbering}
use Rattle.judge.specs.Allowed.{allowed, cost}

-- the largest span of a price
abbrev pub price_limit : ℕ
price_limit = 1000000000

-- the cost of an open pair has at most the span that a table allows
abbrev pub Bounded : {C : Type 0} → Kind C → (ℕ → ℕ → Grade C) → ℕ → Type 0
Bounded {C} k g s = (r c : ℕ) → Within s r → Within s c → (x : C) → g r c ≡ Open x → k.span x ≤ pair_limit

-- each price has at most that span
abbrev pub Priced : {C : Type 0} → Kind C → ℕ → (ℕ → C) → Type 0
Priced k s u = (r : ℕ) → Within s r → k.span (u r) ≤ price_limit

-- the two prices of an open pair come to at most its cost
abbrev pub Under : {C : Type 0} → Kind C → (ℕ → ℕ → Grade C) → ℕ → (ℕ → C) → (ℕ → C) → Type 0
Under {C} k g s u v = (r c : ℕ) → Within s r → Within s c → (x : C) → g r c ≡ Open x → AtMost k (k.plus (u r) (v c)) x

-- the two prices of a pair that the renumbering uses come to just its cost
abbrev pub Tight : {C : Type 0} → Kind C → (ℕ → ℕ → Grade C) → ℕ → List ℕ → (ℕ → C) → (ℕ → C) → Type 0
Tight {C} k g s ns u v = (r : ℕ) → Within s r → (x : C) → g r (slice_index ns (r - 1)) ≡ Open x → k.plus (u r) (v (slice_index ns (r - 1))) ≡ x

-- an allowed renumbering that no other undercuts
abbrev pub Cheapest : {C : Type 0} → Kind C → (ℕ → ℕ → Grade C) → ℕ → List ℕ → Type 0
Cheapest k g s ns =
    Renumbering s ns
    × (allowed g ns ≡ true)
    × ((ms : List ℕ) → Renumbering s ms → allowed g ms ≡ true → AtMost k (cost k g ns) (cost k g ms))

-- an allowed renumbering with prices that prove it cheapest
abbrev pub Certified : {C : Type 0} → Kind C → (ℕ → ℕ → Grade C) → ℕ → List ℕ → (ℕ → C) → (ℕ → C) → Type 0
Certified k g s ns u v =
    Renumbering s ns × (allowed g ns ≡ true) × Priced k s u × Priced k s v × Under k g s u v × Tight k g s ns u v
