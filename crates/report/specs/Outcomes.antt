-- What the events of a log lead to, one after another.
use Rattle.std.specs.Prelude.{ℕ, ◌+◌, List, [], ◌∷◌, Some, None, Option}
use Rattle.costs.specs.Kind.{Kind}
use Rattle.judge.specs.declared.verdict.Verdict.{Verdict}
use Rattle.judge.specs.declared.verdict.Verdict.TheVariants.{Within as Inside, Over, None as Never}
use Rattle.watch.specs.Ledger.{Ledger, after_feed}
use Rattle.watch.specs.Walking.{outcome}

-- each event's place in the log, the first being i, with what it leads to
abbrev pub outcomes_from : {C : Type 0} → Kind C → Ledger C → ℕ → List ℕ → List (ℕ × Option (Verdict C))
outcomes_from k l i [] = []
outcomes_from k l i (e ∷ es) = (i, outcome k (after_feed l e)) ∷ outcomes_from k (after_feed l e) (i + 1) es

-- a hit before other hits
abbrev pub add_hit : {C : Type 0} → ℕ → Option (Verdict C) → List (ℕ × C) → List (ℕ × C)
add_hit i None rest = rest
add_hit i (Some (Inside c)) rest = (i, c) ∷ rest
add_hit i (Some (Over c)) rest = rest
add_hit i (Some Never) rest = rest

-- the hits, each with its place and its cost
abbrev pub hits_in : {C : Type 0} → List (ℕ × Option (Verdict C)) → List (ℕ × C)
hits_in [] = []
hits_in (x ∷ xs) = add_hit x.0 x.1 (hits_in xs)

-- one window more, if there was one
abbrev pub add_count : {C : Type 0} → Option (Verdict C) → ℕ × ℕ × ℕ → ℕ × ℕ × ℕ
add_count None n = n
add_count (Some (Inside c)) n = (n.0 + 1, n.1, n.2)
add_count (Some (Over c)) n = (n.0, n.1 + 1, n.2)
add_count (Some Never) n = (n.0, n.1, n.2 + 1)

-- how many windows lie within the bound, over it, and have no renumbering
abbrev pub tally : {C : Type 0} → List (ℕ × Option (Verdict C)) → ℕ × ℕ × ℕ
tally [] = (0, 0, 0)
tally (x ∷ xs) = add_count x.1 (tally xs)
