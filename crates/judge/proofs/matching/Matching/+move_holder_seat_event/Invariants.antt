use Rattle.std.proofs.Common.{◌≡◌, ◌+◌, ◌*◌, ◌≤◌}
use lib.Count.{ones}
use Rattle.judge.specs.BitRows.{Sub}
use Rattle.judge.specs.Matching.{Tried}
use Rattle.judge.proofs.matching.Matching.+move_holder_seat_event.Given as goal

abbrev pub decreases-move_holder : goal.decreases-move_holder
decreases-move_holder l = 2 * ones l.self.now.untried + 1

abbrev pub decreases-seat_event : goal.decreases-seat_event
decreases-seat_event l = 2 * ones l.self.now.untried

abbrev pub invariant-seat_event-loop-number : goal.invariant-seat_event-loop-number
invariant-seat_event-loop-number l = (ones l.self.untried ≤ ones l.initial.self.untried) × (l.self.rows ≡ l.initial.self.rows) × (l.self.holders ≡ l.initial.self.holders) × Sub l.self.untried l.initial.self.untried × Tried l.self.rows l.self.holders l.initial.self.untried l.self.untried

abbrev pub decreases-seat_event-loop-number : goal.decreases-seat_event-loop-number
decreases-seat_event-loop-number l = ones l.self.untried
