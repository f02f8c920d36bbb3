use Rattle.std.proofs.Common.{refl, ◌∙◌, arith, rules}
use Rattle.judge.specs.BitRows.{Sub}
use Rattle.judge.proofs.Holders.{put_at, leaving, left_standing, placed_freed, joined_freed, freed_joined, placed_again, kept_refused, tried_more}
use Rattle.judge.proofs.matching.Matching.+move_holder_seat_event.Goals as goal

pub move_holder-seat_event-requires : goal.move_holder-seat_event-requires
move_holder-seat_event-requires t c =
    let at = c.index-2.ensures in
    (search rules, rw at.index (left_standing c.args.self.now _ _ _ _ c.index.ensures.index at.below c.in-Some.is))

pub move_holder-returns-then-seat_event-clause-outcome : goal.move_holder-returns-then-seat_event-clause-outcome
move_holder-returns-then-seat_event-clause-outcome t c =
    let at = c.index-2.ensures in
    freed_joined _ _ _ _ (leaving c.args.self.now _ _ _ _ _ _ c.index.ensures.index at.index at.below c.in-Some.is refl refl refl) _ c.requires c.if-seat_event.ensures.outcome

pub move_holder-invariant_of-self-2 : goal.move_holder-invariant_of-self-2
move_holder-invariant_of-self-2 t c =
    let at = c.index-2.ensures in
    record { placed = rw c.index-3.ensures.index (placed_again _ _ _ _ (leaving c.args.self.now _ _ _ _ _ _ c.index.ensures.index at.index at.below c.in-Some.is refl refl refl) _ c.if-seat_event.ensures.outcome) }

pub move_holder-returns-clause-outcome : goal.move_holder-returns-clause-outcome
move_holder-returns-clause-outcome t c =
    let at = c.index-2.ensures in
    kept_refused _ _ _ _ (leaving c.args.self.now _ _ _ _ _ _ c.index.ensures.index at.index at.below c.in-Some.is refl refl refl) _ c.if-seat_event.ensures.outcome _ (put_at _ _ _ _ _ c.index-3.ensures.index refl refl refl)

pub seat_event-invariant_of-self-then-move_holder : goal.seat_event-invariant_of-self-then-move_holder
seat_event-invariant_of-self-then-move_holder t c =
    let inv = c.loop-number.invariant in
    let at = c.index-then-move_holder.ensures in
    record { placed = rw at.index (placed_freed c.args.self.now _ _ _ _ at.below c.if-move_holder.ensures.outcome inv.1 inv.2 c.requires (rw (← inv.1, ← c.index.ensures.index) c.in-Some.ensures.0)) }

pub seat_event-returns-then-move_holder-clause-outcome : goal.seat_event-returns-then-move_holder-clause-outcome
seat_event-returns-then-move_holder-clause-outcome t c =
    let inv = c.loop-number.invariant in
    let at = c.index-then-move_holder.ensures in
    joined_freed c.args.self.now _ _ _ _ at.below c.if-move_holder.ensures.outcome inv.1 inv.2 c.requires _ (put_at _ _ _ _ _ at.index refl refl refl)
    (λ k h. inv.3 k (c.without-self.ensures.inner k h).0) (inv.3 _ c.in-Some.ensures.1)

pub seat_event-loop-number-preserved : goal.seat_event-loop-number-preserved
seat_event-loop-number-preserved t c =
    let call = c.if-move_holder.ensures in
    let kept = call.outcome in
    let inv = c.loop-number.invariant in
    let less = c.without-self.ensures in
    let rest = c.move_holder.new.self.untried in
    let sub : Sub rest c.loop-number.self.untried = λ k h. (less.inner k (call.untried.inner k h)).0 in
    let tried = tried_more c.loop-number.self.rows c.loop-number.self.holders c.args.self.now.untried c.loop-number.self.untried c.without-self.result rest c.in-Some.number less.others sub inv.4 kept.stuck kept.tried in (
      omega (arith, call.untried.fewer, less.fewer),
      kept.rows ∙ inv.1,
      kept.same ∙ inv.2,
      (λ k h. inv.3 k (sub k h)),
      rw (kept.rows, kept.same) tried,
    )
