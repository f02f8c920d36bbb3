use Rattle.std.proofs.Common.{◌≡◌, ◌+◌, length, ◌∙◌, arith}
use Rattle.tables.specs.declared.grade.Grade.TheVariants.{Closed}
use Rattle.tables.proofs.Rows.{filled_more, start_at, start_open, start_closed, started}
use Rattle.tables.proofs.summed.table.start_row.Goals as goal
use Rattle.tables.proofs.summed.table.start_row.Goals.{then-c-open, else-c-open}

pub loop-c-preserved : goal.loop-c-preserved
loop-c-preserved g c =
    let k = g.C.Cost.kind in
    let n = length c.args.row.now in
    let grade : c.if-c-open.grade ≡ start_at k c.args.«open» n (c.loop-c.c + 1) = elim c.if-c-open.branch [
      | then-c-open w ↦ w.grade-is ∙ start_open k c.args.«open» n c.loop-c.c w.zero.result w.zero.ensures w.if-c-open.true
      | else-c-open w ↦ w.grade-is ∙ start_closed k c.args.«open» n c.loop-c.c w.if-c-open.false
    ] in
    filled_more (start_at k c.args.«open» n) Closed n c.loop-c.c c.loop-c.row c.if-c-open.grade (omega arith) grade c.loop-c.invariant

pub returns : goal.returns
returns g c = started g.C.Cost.kind c.args.«open» (length c.args.row.now) c.loop-c.c c.loop-c.row (omega arith) c.loop-c.invariant
