use Rattle.std.proofs.Common.{length}
use Rattle.tables.specs.declared.grade.Grade.TheVariants.{Closed}
use Rattle.tables.proofs.Rows.{Filled, start_at}
use Rattle.tables.proofs.summed.table.start_row.Given as goal

abbrev pub invariant-loop-c : goal.invariant-loop-c
invariant-loop-c g l = Filled (start_at g.C.Cost.kind l.«open» (length l.initial.row)) Closed (length l.initial.row) l.c l.row
