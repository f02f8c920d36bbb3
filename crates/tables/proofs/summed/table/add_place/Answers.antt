use Rattle.std.proofs.Common.{◌+◌, ◌<◌, ◌++◌, length, drop, subst, refl, arith}
use Rattle.std.proofs.lemmas.List.{set-append_left, get_or_append_left, length-take-le, length-append, take-append-drop}
use Rattle.tables.specs.Rows.{Placed}
use Rattle.tables.proofs.Rows.{placed_none, placed_more, placed_past}
use Rattle.tables.proofs.summed.table.add_place.Goals as goal

pub loop-c-init : goal.loop-c-init
loop-c-init g c =
    rw (take-append-drop c.min-end.result c.args.row.now) (placed_none g.P.Value.Cost.kind (g.P.Pricing.prices c.args.pricing.now c.args.trace) 0 c.args.row.now refl)

pub loop-c-preserved : goal.loop-c-preserved
loop-c-preserved g c =
    let k = g.P.Value.Cost.kind in
    let price = g.P.Pricing.prices c.args.pricing.now c.args.trace in
    let before = c.args.row.now in
    let items = c.loop-c.sum-items in
    let rest = drop c.min-end.result before in
    let n = c.loop-c.c in
    let x = c.plus_place.result in
    let within : n < length items = omega (arith, c.loop-c-test.true) in
    let inside : n < length (items ++ rest) = rw (length-append items rest) (omega (arith, within)) in
    let read = get_or_append_left items rest c.sum-item.result n within in
    subst (λ row. Placed k price (n + 1) before row) (set-append_left items rest n x within) (placed_more k price n before (items ++ rest) c.sum-item.result x inside (rw read c.plus_place.ensures) c.loop-c.invariant)

pub returns : goal.returns
returns g c =
    let before = c.args.row.now in
    let wide = length-take-le c.min-end.result before (omega arith) in
    placed_past g.P.Value.Cost.kind (g.P.Pricing.prices c.args.pricing.now c.args.trace) c.loop-c.c c.args.size before (c.loop-c.sum-items ++ drop c.min-end.result before) (omega arith) (omega arith) c.loop-c.invariant
