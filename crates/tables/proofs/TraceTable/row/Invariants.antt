use Rattle.std.proofs.Common.{length}
use Rattle.tables.specs.Table.{pair_at}
use Rattle.tables.specs.declared.grade.Grade.TheVariants.{Closed}
use Rattle.tables.proofs.Rows.{Filled}
use Rattle.tables.proofs.TraceTable.row.Given as goal

abbrev pub invariant-loop-c : goal.invariant-loop-c
invariant-loop-c g l = Filled (pair_at (g.Self.TraceTable.means l.self) l.event) Closed (length l.initial.row) l.c l.row
