use Rattle.shown.proofs.worked.judge_kinds.Goals as goal

pub returns-clause-difference : goal.returns-clause-difference
returns-clause-difference c = rw c.from.ensures at c.in_ok-difference.ensures

pub returns-clause-mismatch : goal.returns-clause-mismatch
returns-clause-mismatch c = rw c.from-2.ensures at c.in_ok-mismatch.ensures

pub returns-clause-mixed : goal.returns-clause-mixed
returns-clause-mixed c = rw (c.from-3.ensures, c.from-4.ensures) at c.in_ok-mixed.ensures
