-- What a report says of a log.
use Rattle.std.specs.Prelude.{◌≡◌, ℕ, true, List, [], ◌∷◌, ◌++◌, map, take, Some, None, vec_items, Option}
use Rattle.std.specs.List.{AllByRecursion}
use Rattle.costs.specs.Kind.{Kind, AtMost}
use Rattle.tables.specs.Table.{Table, pair_at}
use Rattle.judge.specs.Allowed.{allowed, cost}
use Rattle.judge.specs.Renumbering.{Renumbering}
use Rattle.watch.specs.Ledger.{Ledger, standing}
use Rattle.watch.specs.Walking.{after_feeds, first_outside, next_refusal}
use Rattle.watch.specs.declared.failure.Failure.{Failure}
use Rattle.watch.specs.declared.failure.Failure.TheVariants.{Refused, Memory}
use Rattle.watch.specs.declared.walk.NextRefusal.{NextRefusal}
use Rattle.report.specs.Outcomes.{outcomes_from, hits_in, tally}
use Rattle.report.specs.declared.Hit.{Hit}
use Rattle.report.specs.declared.Report.{Report}

-- where a hit was found, and its cost
abbrev pub hit_at : {C : Type 0} → Hit C → ℕ × C
hit_at h = (h.end, h.cost)

-- the numbers are an allowed renumbering of that cost, and no allowed one costs less
pub record Cheapest {C : Type 0} (k : Kind C) (t : Table C) (c : C) (numbers : List ℕ) : Type 0 where
  pub renumbering : Renumbering t.size numbers
  pub is_allowed : allowed (pair_at t) numbers ≡ true
  pub costs : cost k (pair_at t) numbers ≡ c
  pub least : (ms : List ℕ) → Renumbering t.size ms → allowed (pair_at t) ms ≡ true → AtMost k c (cost k (pair_at t) ms)

-- so are those of a hit, at the window after the events up to its end
abbrev pub Numbered : {C : Type 0} → Kind C → Ledger C → List ℕ → Hit C → Type 0
Numbered k l log h = Cheapest k (standing (after_feeds l (take h.end log))) h.cost (vec_items h.numbers)

-- the report of a log that is fed to a watch: its hits in order, each with a least renumbering, and its counts
pub record Reported {C : Type 0} (k : Kind C) (l : Ledger C) (log : List ℕ) (r : Report C) : Type 0 where
  pub hits : map hit_at (vec_items r.hits) ≡ hits_in (outcomes_from k l 1 log)
  pub counts : r.counts ≡ tally (outcomes_from k l 1 log)
  pub numbers : AllByRecursion (Numbered k l log) (vec_items r.hits)

-- the hit of a walk, if it has one
abbrev pub listed_hit : {C : Type 0} → ℕ → Option C → List (ℕ × C)
listed_hit end None = []
listed_hit end (Some c) = (end, c) ∷ []

-- the hits after one walk more: its hit is added, with these numbers
pub record Kept {C : Type 0} (end : ℕ) (hit : Option C) (numbers : List ℕ) (before after : List (Hit C)) : Type 0 where
  pub new : List (Hit C)
  pub added : after ≡ before ++ new
  pub places : map hit_at new ≡ listed_hit end hit
  pub own : AllByRecursion (λ (h : Hit C). vec_items h.numbers ≡ numbers) new

-- why there is none: an event of the log is refused with 5 at its position, or there was no memory
abbrev pub NotReported : {C : Type 0} → Ledger C → List ℕ → Failure NextRefusal → Type 0
NotReported l log (Refused e) = (p : ℕ) × (first_outside l.table.size 1 log ≡ Some p) × (next_refusal e ≡ (5, p ∷ []))
NotReported l log Memory = Unit {0}
