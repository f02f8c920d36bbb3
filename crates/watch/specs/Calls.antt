-- Calls of a watch: what the ledger answers to each, and the ledger that it leaves.
use Rattle.std.specs.Prelude.{ℕ, List, fold, Some, None, Ok, Err, Option, Result}
use Rattle.costs.specs.Kind.{Kind}
use Rattle.tables.specs.Refusals.{told, answered}
use Rattle.judge.specs.Judging.{verdict_told, judge_answer}
use Rattle.judge.specs.Sheets.{sheet_lists}
use Rattle.watch.specs.Ledger.{Ledger, standing, feed_answer, after_feed, pinning_answer, after_pinning, unpinning_answer, after_unpinning, bound_answer, after_bound}
use Rattle.watch.specs.declared.call.Answer.{Answer}
use Rattle.watch.specs.declared.call.Answer.TheVariants.{Change, Judgement}
use Rattle.watch.specs.declared.call.Call.{Call}
use Rattle.watch.specs.declared.call.Call.TheVariants.{Feed, Pin, Unpin, Bound, Judge}

-- the ledger after a call
abbrev pub step : {C : Type 0} → Kind C → Ledger C → Call C → Ledger C
step k l (Feed e) = after_feed l e
step k l (Pin r c) = after_pinning l r c
step k l (Unpin r) = after_unpinning l r
step k l (Bound bound) = after_bound k l bound
step k l (Judge sheet) = l

-- the ledger after a list of calls
abbrev pub steps : {C : Type 0} → Kind C → Ledger C → List (Call C) → Ledger C
steps k l calls = fold (step k) l calls

-- an accepted call that tells nothing more
abbrev pub quiet : {X : Type 0} → Result (Unit {0}) ℕ → Result (Option X) ℕ
quiet (Ok done) = Ok None
quiet (Err n) = Err n

-- an accepted call that tells a value
abbrev pub telling : {X : Type 0} → Result X ℕ → Result (Option X) ℕ
telling (Ok x) = Ok (Some x)
telling (Err n) = Err n

-- what a call answers by the ledger before it: accepted, a judge with its verdict, or refused with a number
abbrev pub ledger_answer : {C : Type 0} → Kind C → Ledger C → Call C → Result (Option (ℕ × List C)) ℕ
ledger_answer k l (Feed e) = quiet (feed_answer l e)
ledger_answer k l (Pin r c) = quiet (pinning_answer l r c)
ledger_answer k l (Unpin r) = quiet (unpinning_answer l r)
ledger_answer k l (Bound bound) = quiet (bound_answer k bound)
ledger_answer k l (Judge sheet) = telling (judge_answer k (standing l) l.bound (sheet_lists sheet))

-- the same of an answer that was given: a verdict by its number and values, a refusal by its number
abbrev pub answer_told : {C : Type 0} → Answer C → Result (Option (ℕ × List C)) ℕ
answer_told (Change r) = quiet (answered r)
answer_told (Judgement r sheet) = telling (told verdict_told r)
