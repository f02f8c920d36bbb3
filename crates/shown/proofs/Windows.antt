-- What is judged of a window.
use Rattle.std.proofs.Common.{◌≡◌}
use Rattle.std.specs.Prelude.{IfOk}
use Rattle.costs.specs.Kind.{Kind}
use Rattle.tables.specs.Refusals.{told}
use Rattle.tables.specs.Table.{Table}
use Rattle.judge.specs.Judging.{Lists, verdict_told, judge_answer, Left, Exact}
use Rattle.judge.specs.Sheets.{sheet_lists, blank}
use Rattle.shown.specs.Worked.{JudgedOf}
use Rattle.shown.specs.declared.verdicts.Judged.{Judged}

-- a judgement over a table that is the one meant, with lists that are new
pub judged_of : {C : Type 0} (k : Kind C) (t u : Table C) (bound : C) (j : Judged C) (l : Lists C) → t ≡ u → l ≡ blank k
    → told verdict_told j.answer ≡ judge_answer k t bound l → Left k t l j.answer (sheet_lists j.sheet) → IfOk j.answer (λ v. Exact k t bound v) → j.size ≡ u.size → JudgedOf k u bound j
judged_of k t u bound j l same new answer left exact size =
    record { answer = rw (same, new) at answer; left = rw (same, new) at left; exact = rw same at exact; size = size }
