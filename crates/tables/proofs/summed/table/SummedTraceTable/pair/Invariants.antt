use Rattle.std.proofs.Common.{◌≡◌, drop}
use Rattle.tables.specs.Ring.{ring_events}
use Rattle.tables.specs.Summing.{graded}
use Rattle.tables.proofs.summed.table.SummedTraceTable.pair.Given as goal

abbrev pub invariant-loop-j : goal.invariant-loop-j
invariant-loop-j g l =
    let t = l.self in
    l.sum ≡ graded g.P.Value.Cost.kind (g.P.Pricing.prices t.pricing) (drop l.j t.trace.items) (drop l.j (ring_events t.window)) l.event l.number
