use Rattle.std.proofs.Common.{◌≡◌}
use Rattle.judge.specs.Matching.{Filled}
use Rattle.judge.proofs.matching.blocked_events.Given as goal

abbrev pub invariant-loop-event : goal.invariant-loop-event
invariant-loop-event l = (l.matching.rows ≡ l.rows) × Filled l.matching.holders l.event
