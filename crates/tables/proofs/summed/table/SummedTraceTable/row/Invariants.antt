use Rattle.std.proofs.Common.{length}
use Rattle.tables.specs.Ring.{ring_events}
use Rattle.tables.proofs.Walk.{SummedFrom}
use Rattle.tables.proofs.summed.table.SummedTraceTable.row.Given as goal

abbrev pub invariant-loop-j : goal.invariant-loop-j
invariant-loop-j g l =
    let t = l.self in
    SummedFrom g.P.Value.Cost.kind (g.P.Pricing.prices t.pricing) t.size t.trace.items (ring_events t.window) l.event (length l.initial.row) l.j l.row
