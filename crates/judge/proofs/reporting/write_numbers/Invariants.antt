use Rattle.std.proofs.Common.{◌≡◌, ℕ, Some, None}
use Rattle.tables.specs.Table.{Within}
use Rattle.judge.specs.Rows.{listed}
use Rattle.judge.proofs.reporting.write_numbers.Given as goal

abbrev pub invariant-loop-event : goal.invariant-loop-event
invariant-loop-event l = (r : ℕ) → Within l.event r → Some (listed l.number-items 0 r) ≡ listed l.seats None r
