use Rattle.std.proofs.Common.{ℕ, ◌≡◌, length, subst, arith}
use Rattle.std.proofs.lemmas.List.{length-take-le}
use Rattle.judge.proofs.Marking.{MarkedBelow, marked_more, written_front}
use Rattle.judge.proofs.marks.write_marks.Goals as goal

pub loop-event-preserved : goal.loop-event-preserved
loop-event-preserved c = marked_more _ _ _ (omega arith) c.loop-event.invariant

pub returns : goal.returns
returns c =
    let long : length c.loop-event.mark-items ≡ c.args.size = omega (arith, length-take-le c.args.size c.args.marks.now c.requires.room) in
    written_front _ _ _ _ long (subst (λ (n : ℕ). MarkedBelow c.args.set n c.loop-event.mark-items) (omega arith) c.loop-event.invariant)
