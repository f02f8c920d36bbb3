use Rattle.judge.proofs.Marking.{MarkedBelow}
use Rattle.judge.proofs.marks.write_marks.Given as goal

abbrev pub invariant-loop-event : goal.invariant-loop-event
invariant-loop-event l = MarkedBelow l.set l.event l.mark-items
