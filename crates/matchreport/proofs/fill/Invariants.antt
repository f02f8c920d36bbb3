use Rattle.std.proofs.Common.{◌≤◌, length}
use Rattle.matchreport.proofs.fill.Given as goal

abbrev pub invariant-loop : goal.invariant-loop
invariant-loop g l = l.held ≤ length l.buffer
