-- The least cost of an allowed renumbering, and the verdict by a bound.
use Rattle.std.specs.Prelude.{ℕ, Bool, true, false, cond, List, [], ◌∷◌, Some, None, Option}
use Rattle.costs.specs.Kind.{Kind}
use Rattle.tables.specs.declared.grade.Grade.{Grade}
use Rattle.judge.specs.declared.verdict.Verdict.{Verdict}
use Rattle.judge.specs.declared.verdict.Verdict.TheVariants.{Within as Inside, Over, None as Never}
use Rattle.judge.specs.Allowed.{allowed, cost}
use Rattle.judge.specs.Enumeration.{renumberings}

-- a cost, where it counts, beside the best so far
abbrev pub offer : {C : Type 0} → Kind C → Bool → C → Option C → Option C
offer k false c best = best
offer k true c None = Some c
offer k true c (Some d) = Some (cond (k.at_most c d) c d)

-- the least cost of an allowed list among these
abbrev pub least_of : {C : Type 0} → Kind C → (ℕ → ℕ → Grade C) → List (List ℕ) → Option C
least_of k g [] = None
least_of k g (ns ∷ rest) = offer k (allowed g ns) (cost k g ns) (least_of k g rest)

-- the least cost of an allowed renumbering, None where none is allowed
abbrev pub least : {C : Type 0} → Kind C → (ℕ → ℕ → Grade C) → ℕ → Option C
least k g s = least_of k g (renumberings s)

-- the verdict that a least cost gives
abbrev pub by_bound : {C : Type 0} → Kind C → C → Option C → Verdict C
by_bound k bound None = Never
by_bound k bound (Some c) = cond (k.at_most c bound) (Inside c) (Over c)

-- the verdict on s events: within the bound or over it at the least cost, or none where no renumbering is allowed
abbrev pub judged : {C : Type 0} → Kind C → (ℕ → ℕ → Grade C) → ℕ → C → Verdict C
judged k g s bound = by_bound k bound (least k g s)
