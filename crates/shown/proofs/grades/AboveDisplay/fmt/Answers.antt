use Rattle.std.proofs.Common.{codes, rules, arith}
use Rattle.shown.specs.Text.{count_in_three}
use Rattle.shown.proofs.Texts.{written_more, written_all}
use Rattle.shown.proofs.grades.AboveDisplay.fmt.Goals as goal

pub loop-number-preserved : goal.loop-number-preserved
loop-number-preserved g c = (
  omega arith,
  omega arith,
  λ plain.
      let so_far = c.loop-number.invariant.2 plain in
      written_more _ _ _ _ count_in_three c.loop-number.number-counter c.loop-number.invariant.0 so_far
      (rw c.laid_out.ensures at (c.in_ok-write-2.ensures.writes so_far.plain (search rules))),
)

pub returns-in_ok-write-clause-writes : goal.returns-in_ok-write-clause-writes
returns-in_ok-write-clause-writes g c plain ok =
    let one = c.in_ok-write.ensures.writes plain (search rules) in
    written_all _ _ _ _ (codes "       ") count_in_three _ c.args.self.now.0 (omega arith) one (c.loop-number.invariant.2 one.plain)

pub returns-in_ok-write-2-clause-writes : goal.returns-in_ok-write-2-clause-writes
returns-in_ok-write-2-clause-writes g c plain ok =
    let one = c.in_ok-write.ensures.writes plain (search rules) in
    let so_far = c.loop-number.invariant.2 one.plain in
    let last = rw c.laid_out.ensures at (c.in_ok-write-2.ensures.writes so_far.plain (search rules)) in
    written_all _ _ _ _ (codes "       ") count_in_three _ c.args.self.now.0 (omega arith) one
    (written_more _ _ _ _ count_in_three c.loop-number.number-counter c.loop-number.invariant.0 so_far last)
