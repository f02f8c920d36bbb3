use Rattle.tables.proofs.Grids.{RowsTo}
use Rattle.tables.proofs.TraceTable.grid.Given as goal

abbrev pub invariant-loop-r : goal.invariant-loop-r
invariant-loop-r g l = RowsTo (g.Self.TraceTable.means l.self) l.r l.grades
