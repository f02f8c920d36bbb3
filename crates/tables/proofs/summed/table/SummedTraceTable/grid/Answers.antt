use Rattle.std.proofs.Common.{◌+◌, ◌-◌, ◌*◌, ◌<◌, ◌≤◌, length, sym, refl, arith}
use Rattle.tables.specs.Ring.{ring_events}
use Rattle.tables.proofs.Grids.{grid_adds}
use Rattle.tables.specs.Held.{few}
use Rattle.tables.proofs.summed.table.SummedTraceTable.grid.Goals as goal

pub loop-j-preserved : goal.loop-j-preserved
loop-j-preserved g c =
    let t = c.args.self.now in
    let s = t.size in
    let j = c.loop-j.j in
    let e = c.event.result in
    let some : 0 < j = c.loop-j-test.true in
    let to : j ≤ length (ring_events t.window) = omega (arith, c.len-j.ensures.value, c.loop-j.auto.j) in
    let held = t.events (j - 1) 0 (omega arith) in
    grid_adds g.P.Value.Cost.kind (g.P.Pricing.prices t.pricing) s t.trace.items (ring_events t.window) (few t) j some to e
    (omega (arith, held, c.event.ensures), omega (arith, held, c.event.ensures)) (sym c.event.ensures) ((e - 1) * s + s) c.loop-j.grades c.add_place.new.row
    (omega (arith, c.start_row.ensures.whole, c.loop-j.auto.grades)) refl (rw c.deref.ensures.0 at c.add_place.ensures) c.loop-j.invariant
