use Rattle.std.proofs.Common.{◌≡◌, ◌+◌, length, sym, ◌∙◌, arith}
use Rattle.tables.specs.Table.{pair_at}
use Rattle.tables.specs.declared.grade.Grade.TheVariants.{Closed}
use Rattle.tables.proofs.Rows.{filled_more, row_is, outside_number}
use Rattle.tables.proofs.TraceTable.row.Goals as goal
use Rattle.tables.proofs.TraceTable.row.Goals.{then-c-top, else-c-top}

pub loop-c-preserved : goal.loop-c-preserved
loop-c-preserved g c =
    let t = g.Self.TraceTable.means c.args.self.now in
    let size = c.size-top.ensures in
    let grade : c.if-c-top.grade ≡ pair_at t c.args.event (c.loop-c.c + 1) = elim c.if-c-top.branch [
      | then-c-top w ↦ w.grade-is ∙ w.pair.ensures
      | else-c-top w ↦ w.grade-is ∙ sym (outside_number t c.args.event (c.loop-c.c + 1) (omega (arith, w.if-c-top.false)))
    ] in
    filled_more (pair_at t c.args.event) Closed (length c.args.row.now) c.loop-c.c c.loop-c.row c.if-c-top.grade (omega arith) grade c.loop-c.invariant

pub returns : goal.returns
returns g c = row_is (g.Self.TraceTable.means c.args.self.now) c.args.event (length c.args.row.now) c.loop-c.c c.loop-c.row (omega arith) c.loop-c.invariant
