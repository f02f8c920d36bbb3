use Rattle.std.proofs.Common.{length, sym}
use Rattle.tables.specs.Pins.{pins_in}
use Rattle.tables.proofs.Pinned.{row_free, row_pinned}
use Rattle.tables.proofs.pins.PinsTraceTable.row.Goals as goal

pub returns-in-Some : goal.returns-in-Some
returns-in-Some g c =
    let own = c.args.self.now in
    row_pinned (g.T.TraceTable.means own.table) (pins_in own.pins) c.args.event (length c.args.row.now) c.in-Some.pin c.row.new.row c.close_others.new.row
    (sym c.in-Some.ensures) c.row.ensures c.close_others.ensures

pub returns-in_default : goal.returns-in_default
returns-in_default g c =
    let own = c.args.self.now in
    row_free (g.T.TraceTable.means own.table) (pins_in own.pins) c.args.event (length c.args.row.now) c.row.new.row (sym c.in_default.ensures) c.row.ensures
