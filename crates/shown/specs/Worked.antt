-- What is judged of the worked window.
use Rattle.std.specs.Prelude.{◌≡◌, IfOk}
use Rattle.costs.specs.Kind.{Kind}
use Rattle.tables.specs.Refusals.{told}
use Rattle.tables.specs.Table.{Table}
use Rattle.judge.specs.Judging.{verdict_told, judge_answer, Left, Exact}
use Rattle.judge.specs.Sheets.{sheet_lists, blank}
use Rattle.shown.specs.declared.verdicts.Judged.{Judged}

-- a judgement over a table with new lists: what the judge answers, and what the lists then hold
pub record JudgedOf {C : Type 0} (k : Kind C) (t : Table C) (bound : C) (j : Judged C) : Type 0 where
  pub answer : told verdict_told j.answer ≡ judge_answer k t bound (blank k)
  pub left : Left k t (blank k) j.answer (sheet_lists j.sheet)
  pub exact : IfOk j.answer (λ v. Exact k t bound v)
  pub size : j.size ≡ t.size
