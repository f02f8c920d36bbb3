use Rattle.std.proofs.Common.{ℕ, ◌+◌, sym, refl, ◌∙◌, subst, arith}
use Rattle.tables.specs.Limits.{max_size}
use Rattle.judge.specs.Matching.{Filled}
use Rattle.std.proofs.lemmas.Nat.Bits.{bit_at_ones}
use Rattle.judge.proofs.Matched.{filled_none, filled_more, all_seated, event_blocked}
use Rattle.judge.proofs.matching.blocked_events.Goals as goal

pub loop-event-init : goal.loop-event-init
loop-event-init c = (c.new-matching.ensures.rows, rw c.new-matching.ensures.holders (filled_none max_size))

pub seat_one_more-requires-clause-standing : goal.seat_one_more-requires-clause-standing
seat_one_more-requires-clause-standing c s = omega (arith, (c.loop-event.invariant.1 c.new-event.result).1 s, c.new-event.ensures)

pub seat_one_more-requires-clause-untried : goal.seat_one_more-requires-clause-untried
seat_one_more-requires-clause-untried c = bit_at_ones max_size _ (omega (arith, c.new-event.ensures))

pub loop-event-preserved : goal.loop-event-preserved
loop-event-preserved c =
    let joined = c.if-not-seat_one_more.ensures in
    let seats = c.seat_one_more.new.self in
    let filled = subst (Filled c.loop-event.matching.holders) (sym c.new-event.ensures) c.loop-event.invariant.1 in
    (joined.rows ∙ c.loop-event.invariant.0, subst (λ (n : ℕ). Filled seats.holders (n + 1)) c.new-event.ensures (filled_more _ _ _ joined filled))

pub returns-then-not-seat_one_more : goal.returns-then-not-seat_one_more
returns-then-not-seat_one_more c =
    let refused = c.if-not-seat_one_more.ensures in
    let filled = subst (Filled c.loop-event.matching.holders) (sym c.new-event.ensures) c.loop-event.invariant.1 in
    event_blocked _ _ _ c.requires.rows (refused.rows ∙ c.loop-event.invariant.0) max_size _ _ (omega (arith, c.new-event.ensures)) c.requires.size _ refl filled refused c.marked_events.ensures

pub returns : goal.returns
returns c =
    let filled = subst (λ (n : ℕ). Filled c.loop-event.matching.holders n) (omega arith) c.loop-event.invariant.1 in
    all_seated _ c.loop-event.matching _ c.requires.rows c.loop-event.invariant.0 filled
