use Rattle.std.proofs.Common.{◌<◌, ◌≤◌, length, ◌∙◌, arith}
use Rattle.tables.specs.Ring.{ring_events}
use Rattle.tables.specs.Held.{few}
use Rattle.tables.proofs.Walk.{pair_skips}
use Rattle.tables.proofs.summed.table.SummedTraceTable.pair.Goals as goal

pub loop-j-preserved : goal.loop-j-preserved
loop-j-preserved g c =
    let t = c.args.self.now in
    let j = c.loop-j.j in
    let some : 0 < j = omega arith in
    let to : j ≤ length (ring_events t.window) = let all = c.len-j.ensures.value in omega arith in
    pair_skips g.P.Value.Cost.kind (g.P.Pricing.prices t.pricing) t.trace.items (ring_events t.window) c.args.event c.args.number (few t) j some to
    c.loop-j.sum (λ e. c.if-event.false (c.event.ensures ∙ e)) c.loop-j.invariant
