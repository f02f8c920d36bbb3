use Rattle.std.proofs.Common.{take}
use Rattle.judge.specs.Settling.{graded}
use Rattle.judge.proofs.Reports.{SummedFrom}
use Rattle.judge.proofs.reporting.renumbering_cost.Given as goal

abbrev pub invariant-loop-event : goal.invariant-loop-event
invariant-loop-event g l = SummedFrom g.C.Cost.kind (graded l.pairs) (take l.pairs.size l.numbers) l.event l.sum
