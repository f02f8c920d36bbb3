use Rattle.judge.proofs.GradedPairs.{RowsTo}
use Rattle.judge.proofs.grading.Pairs.open_rows.Given as goal

abbrev pub invariant-loop-place : goal.invariant-loop-place
invariant-loop-place g l = RowsTo l.self.grades.now l.self.size l.place l.row-items
