use Rattle.tables.specs.Ring.{ring_events}
use Rattle.tables.proofs.Grids.{GridFrom}
use Rattle.tables.proofs.summed.table.SummedTraceTable.grid.Given as goal

abbrev pub invariant-loop-j : goal.invariant-loop-j
invariant-loop-j g l =
    let t = l.self in
    GridFrom g.P.Value.Cost.kind (g.P.Pricing.prices t.pricing) t.size t.trace.items (ring_events t.window) l.j l.grades
