-- What is proved of the verdict: prices or marks tell it, and one of the two there always is.
use Rattle.std.specs.Prelude.{◌≡◌, ℕ, ◌≤◌, cond, ◌⊎◌, List}
use Rattle.costs.specs.Kind.{Kind, Laws}
use Rattle.costs.specs.Sums.{sum_of}
use Rattle.tables.specs.declared.grade.Grade.{Grade}
use Rattle.judge.specs.declared.verdict.Verdict.TheVariants.{Within as Inside, Over, None as Never}
use Rattle.judge.specs.Renumbering.{up_to}
use Rattle.judge.specs.Allowed.{cost}
use Rattle.judge.specs.Prices.{Bounded, Certified}
use Rattle.judge.specs.Marks.{Violator}
use Rattle.judge.specs.Least.{judged}

-- a renumbering with prices tells the verdict: its cost, which is the sum of all prices, is the least
abbrev pub PricesTell : {C : Type 0} → Kind C → (ℕ → ℕ → Grade C) → ℕ → C → Type 0
PricesTell {C} k g s bound =
    (ns : List ℕ) (u v : ℕ → C) → Certified k g s ns u v
    → (cost k g ns ≡ k.plus (sum_of k u (up_to s)) (sum_of k v (up_to s)))
    × (judged k g s bound ≡ cond (k.at_most (cost k g ns) bound) (Inside (cost k g ns)) (Over (cost k g ns)))

-- marked events with too few open numbers tell the verdict: there is none
abbrev pub MarksTell : {C : Type 0} → Kind C → (ℕ → ℕ → Grade C) → ℕ → C → Type 0
MarksTell k g s bound = (marks : List ℕ) → Violator g s marks → judged k g s bound ≡ Never

-- both hold of any grades whose costs are bounded
abbrev pub JudgeIsRight : Type 0 → Type 0
JudgeIsRight C =
    (k : Kind C) → Laws k → (g : ℕ → ℕ → Grade C) (s : ℕ) (bound : C) → s ≤ 64 → Bounded k g s
    → PricesTell k g s bound × MarksTell k g s bound

-- there are always such prices, or such marks
abbrev pub Settled : Type 0 → Type 0
Settled C =
    (k : Kind C) → Laws k → (g : ℕ → ℕ → Grade C) (s : ℕ) → s ≤ 64 → Bounded k g s
    → ((marks : List ℕ) × Violator g s marks) ⊎ ((ns : List ℕ) × (u : ℕ → C) × (v : ℕ → C) × Certified k g s ns u v)
