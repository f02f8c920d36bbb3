-- A judge of a watch, by its ledger.
use Rattle.std.specs.Prelude.{◌≡◌, IfOk, Result}
use Rattle.costs.specs.Kind.{Kind}
use Rattle.tables.specs.Refusals.{told}
use Rattle.tables.specs.declared.refusal.Refusal.{Refusal}
use Rattle.judge.specs.Judging.{Lists, verdict_told, judge_answer, Left, Exact}
use Rattle.judge.specs.declared.verdict.Verdict.{Verdict}
use Rattle.watch.specs.Ledger.{Ledger, standing}

-- the verdict or the refusing number is what the ledger says, each list holds what goes with it, and 'within' and
-- 'none' are said exactly when they hold
pub record Judging {C : Type 0} (k : Kind C) (l : Ledger C) (before : Lists C) (r : Result (Verdict C) Refusal) (after : Lists C) : Type 0 where
  pub answer : told verdict_told r ≡ judge_answer k (standing l) l.bound before
  pub left : Left k (standing l) before r after
  pub exact : IfOk r (λ v. Exact k (standing l) l.bound v)
