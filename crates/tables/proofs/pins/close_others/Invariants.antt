use Rattle.tables.specs.Rows.{PinnedRow}
use Rattle.tables.proofs.pins.close_others.Given as goal

abbrev pub invariant-loop-c : goal.invariant-loop-c
invariant-loop-c g l = PinnedRow l.number l.c l.initial.row l.row
