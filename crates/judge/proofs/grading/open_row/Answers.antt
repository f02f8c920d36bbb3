use Rattle.std.proofs.Common.{sym, ◌∙◌, arith}
use Rattle.std.proofs.lemmas.List.{get_or_read}
use Rattle.tables.specs.declared.grade.Grade.TheVariants.{Closed}
use Rattle.judge.proofs.OpenRows.{open_skip, open_more}
use Rattle.judge.proofs.grading.open_row.Goals as goal

pub loop-place-preserved-in_default : goal.loop-place-preserved-in_default
loop-place-preserved-in_default g c =
    let read = get_or_read c.args.row.now c.loop-place.place c.index-row-place.result (omega arith) c.index-row-place.is Closed in
    open_skip c.args.row.now c.loop-place.place c.loop-place.bits (sym c.in_default.is ∙ read) c.loop-place.invariant

pub loop-place-preserved : goal.loop-place-preserved
loop-place-preserved g c =
    let read = get_or_read c.args.row.now c.loop-place.place c.index-row-place.result (omega arith) c.index-row-place.is Closed in
    open_more c.args.row.now c.loop-place.place c.loop-place.bits c.in-Open._cost (omega arith) (sym c.in-Open.is ∙ read) c.loop-place.invariant
