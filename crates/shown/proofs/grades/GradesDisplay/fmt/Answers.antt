use Rattle.std.proofs.Common.{ℕ, List, ◌++◌, codes, rules, arith}
use Rattle.shown.specs.Text.{row_text, above_text}
use Rattle.shown.proofs.Texts.{written_more, written_all}
use Rattle.shown.proofs.grades.GradesDisplay.fmt.Goals as goal

pub loop-event-preserved : goal.loop-event-preserved
loop-event-preserved g c =
    let text : ℕ → List ℕ = λ e. codes "\n" ++ row_text (g.T.TraceTable.means c.args.self.now.0.now) e in (
      omega arith,
      λ plain.
          let so_far = c.loop-event.invariant.1 plain in
          written_more _ _ _ _ text c.loop-event.event c.loop-event.invariant.0 so_far
          (c.in_ok-write-2.ensures.writes so_far.plain (search rules)),
    )

pub returns-in_ok-write-2-clause-writes : goal.returns-in_ok-write-2-clause-writes
returns-in_ok-write-2-clause-writes g c plain ok =
    let t = g.T.TraceTable.means c.args.self.now.0.now in
    let text : ℕ → List ℕ = λ e. codes "\n" ++ row_text t e in
    let head : List ℕ = codes "grades of the window (a row for each event, a column for each number, - closed)\n" ++ above_text t.size in
    let one = rw c.size.ensures at (c.in_ok-write.ensures.writes plain (search rules)) in
    let so_far = c.loop-event.invariant.1 one.plain in
    let last = c.in_ok-write-2.ensures.writes so_far.plain (search rules) in
    written_all _ _ _ _ head text _ t.size (omega (arith, c.size-event-end.ensures)) one
    (written_more _ _ _ _ text c.loop-event.event c.loop-event.invariant.0 so_far last)
