use Rattle.std.proofs.Common.{◌++◌, drop}
use Rattle.tables.specs.Rows.{Placed}
use Rattle.tables.proofs.summed.table.add_place.Given as goal

abbrev pub invariant-loop-c : goal.invariant-loop-c
invariant-loop-c g l = Placed g.P.Value.Cost.kind (g.P.Pricing.prices l.pricing l.trace) l.c l.fn.row (l.sum-items ++ drop l.end l.fn.row)
