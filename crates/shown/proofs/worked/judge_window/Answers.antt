use Rattle.std.proofs.Common.{refl}
use Rattle.shown.proofs.Windows.{judged_of}
use Rattle.shown.proofs.worked.judge_window.Goals as goal

pub returns : goal.returns
returns g c =
    let judged = c.judge_sheet-answer.ensures in
    judged_of g.P.Value.Cost.kind _ _ c.args.bound _ _ c.in_ok-table.ensures c.in_ok-sheet.ensures judged.answer judged.left judged.exact refl
