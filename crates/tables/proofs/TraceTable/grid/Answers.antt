use Rattle.std.proofs.Common.{◌≡◌, ◌+◌, ◌-◌, ◌*◌, ◌≤◌, length, ◌∙◌, arith}
use Rattle.std.proofs.lemmas.Nat.{mul-add-lt}
use Rattle.std.proofs.lemmas.List.Edits.{length-between}
use Rattle.tables.proofs.Grids.{rows_more}
use Rattle.tables.proofs.TraceTable.grid.Goals as goal

pub loop-r-preserved : goal.loop-r-preserved
loop-r-preserved g c =
    let top = c.size-top.result in
    let n = c.loop-r.r in
    let grades = c.loop-r.grades in
    let whole : length c.args.grades.now ≡ top * top = omega arith in
    let inside : n * top + top ≤ length grades = omega (arith, whole, c.loop-r.auto.grades, c.loop-r-test.true, mul-add-lt n top (top - 1) top c.loop-r-test.true (omega (arith, c.loop-r-test.true))) in
    rows_more (g.Self.TraceTable.means c.args.self.now) n top _ _ grades c.row.new.row c.size-top.ensures (omega arith)
    (length-between grades (n * top) (n * top + top) inside ∙ omega arith) c.row.ensures c.loop-r.invariant
