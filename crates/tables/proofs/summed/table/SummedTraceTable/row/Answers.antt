use Rattle.std.proofs.Common.{◌≡◌, ◌<◌, ◌≤◌, length, sym, ◌∙◌, arith}
use Rattle.tables.specs.Ring.{ring_events}
use Rattle.tables.specs.Summed.{summed_table}
use Rattle.tables.specs.Held.{few}
use Rattle.tables.proofs.Walk.{walk_skips, walk_ends, row_closed}
use Rattle.tables.proofs.summed.table.SummedTraceTable.row.Goals as goal

pub returns-then-not-is_within : goal.returns-then-not-is_within
returns-then-not-is_within g c =
    let k = g.P.Value.Cost.kind in
    row_closed k (summed_table k g.P.Pricing.prices c.args.self.now) c.args.event (length c.args.row.now) c.start_row.new.row (sym c.if-not-is_within.ensures) c.start_row.ensures

pub loop-j-preserved : goal.loop-j-preserved
loop-j-preserved g c =
    let t = c.args.self.now in
    let j = c.loop-j.j in
    let some : 0 < j = omega arith in
    let to : j ≤ length (ring_events t.window) = let all = c.len-j.ensures.value in omega arith in
    walk_skips g.P.Value.Cost.kind (g.P.Pricing.prices t.pricing) t.size t.trace.items (ring_events t.window) c.args.event (length c.start_row-2.new.row) (few t) j some to
    c.loop-j.row (λ e. c.if-event.false (c.event.ensures ∙ e)) c.loop-j.invariant

pub returns : goal.returns
returns g c =
    let t = c.args.self.now in
    let done : c.loop-j.j ≡ 0 = omega arith in
    let kept = c.start_row-2.ensures.whole in
    rw (← kept) (walk_ends g.P.Value.Cost.kind (g.P.Pricing.prices t.pricing) t.size t.trace.items (ring_events t.window) c.args.event (length c.start_row-2.new.row) (sym c.if-not-is_within.ensures) c.loop-j.row
    (rw done at c.loop-j.invariant))
