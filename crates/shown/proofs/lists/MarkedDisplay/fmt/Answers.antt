use Rattle.std.proofs.Common.{rules, arith}
use Rattle.std.proofs.Output.{has_written_append, has_written_of_eq}
use Rattle.shown.proofs.Texts.{marked_one, marked_none}
use Rattle.shown.proofs.lists.MarkedDisplay.fmt.Goals as goal
use Rattle.shown.proofs.lists.MarkedDisplay.fmt.Goals.{then-mark-eq1+in_ok-write, else-mark-eq1}

pub loop-place-preserved : goal.loop-place-preserved
loop-place-preserved g c plain =
    let ms = c.args.self.now.0.now in
    let i = c.loop-place.place in
    let so_far = c.loop-place.invariant plain in
    elim c.if-mark-eq1.branch [
      | then-mark-eq1+in_ok-write w ↦
          rw w.f-is (has_written_of_eq _ _ _ _ _ (marked_one ms i (omega arith) w.if-mark-eq1.true) (has_written_append _ _ _ _ _ _ so_far (search rules)))
      | else-mark-eq1 w ↦ rw w.f-is (has_written_of_eq _ _ _ _ _ (marked_none ms i (omega arith) w.if-mark-eq1.false) so_far)
    ]
