use Rattle.std.proofs.Common.{ℕ, List, ◌++◌, codes, rules, arith}
use Rattle.std.specs.Fmt.{decimal}
use Rattle.tables.specs.Table.{pair_at}
use Rattle.shown.specs.Text.{square_text}
use Rattle.shown.proofs.Texts.{written_more, written_all}
use Rattle.shown.proofs.grades.RowDisplay.fmt.Goals as goal

pub loop-number-preserved : goal.loop-number-preserved
loop-number-preserved g c =
    let text : ℕ → List ℕ = λ n. square_text (pair_at (g.T.TraceTable.means c.args.self.now.table.now) c.args.self.now.event n) in (
      omega arith,
      λ plain.
          let so_far = c.loop-number.invariant.1 plain in
          written_more _ _ _ _ text c.loop-number.number c.loop-number.invariant.0 so_far
          (rw c.pair.ensures at (c.in_ok-write-2.ensures.writes so_far.plain (search rules))),
    )

pub returns-in_ok-write-2-clause-writes : goal.returns-in_ok-write-2-clause-writes
returns-in_ok-write-2-clause-writes g c plain ok =
    let t = g.T.TraceTable.means c.args.self.now.table.now in
    let text : ℕ → List ℕ = λ n. square_text (pair_at t c.args.self.now.event n) in
    let one = c.in_ok-write.ensures.writes plain (search rules) in
    let so_far = c.loop-number.invariant.1 one.plain in
    let last = rw c.pair.ensures at (c.in_ok-write-2.ensures.writes so_far.plain (search rules)) in
    written_all _ _ _ _ (codes "event " ++ decimal c.args.self.now.event) text _ t.size (omega (arith, c.size-number-end.ensures)) one
    (written_more _ _ _ _ text c.loop-number.number c.loop-number.invariant.0 so_far last)
