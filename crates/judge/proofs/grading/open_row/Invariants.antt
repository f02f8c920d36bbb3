use Rattle.judge.proofs.OpenRows.{OpenTo}
use Rattle.judge.proofs.grading.open_row.Given as goal

abbrev pub invariant-loop-place : goal.invariant-loop-place
invariant-loop-place g l = OpenTo l.row l.place l.bits
