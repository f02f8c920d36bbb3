use Rattle.judge.specs.Moves.{Marks}
use Rattle.judge.proofs.matching.Matching.marked_events.Given as goal

abbrev pub invariant-loop-number : goal.invariant-loop-number
invariant-loop-number l = Marks l.self l.fn.event l.number l.marked
