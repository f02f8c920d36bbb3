use Rattle.std.proofs.Common.{ℕ, ◌≡◌, ◌+◌, get_or, None, Option, sym, ap, refl, ◌∙◌, subst, arith}
use lib.Bits.{bit_or}
use Rattle.judge.specs.BitRows.{Has}
use Rattle.judge.specs.Matching.{Holds}
use Rattle.judge.specs.Moves.{Marks}
use Rattle.judge.proofs.Holders.{none_holds, read_holder}
use Rattle.judge.proofs.MarkedRow.{marks_none, marks_skip, marks_more}
use Rattle.judge.proofs.matching.Matching.marked_events.Goals as goal
use Rattle.judge.proofs.matching.Matching.marked_events.Goals.{in-Some+then-not-is_in, in-Some+else-not-is_in, in_default}

pub loop-number-init : goal.loop-number-init
loop-number-init c = rw c.bit-marked.ensures (marks_none _ _)

pub loop-number-preserved : goal.loop-number-preserved
loop-number-preserved c =
    let seats = c.args.self.now in
    let n = c.loop-number.number in
    let inv = c.loop-number.invariant in
    let Marked : ℕ → Type 0 = λ (row : ℕ). Marks seats c.args.event (n + 1) row in
    elim c.match-holder.branch [
      | in-Some+then-not-is_in w ↦
          (let holder : Holds seats.holders w.in-Some.holder n = read_holder seats.holders n n _ _ refl (omega (arith, c.loop-number-test.true, c.type_inv.holder-items)) w.in-Some.is in
          let gone = subst (λ (k : ℕ). Has seats.untried k → ⊥) w.new.ensures w.if-not-is_in.ensures in
          subst Marked (sym (w.marked-is ∙ ap (bit_or c.loop-number.marked) w.bit-marked-then-not-is_in.ensures)) (marks_more _ _ _ _ _ (holder, gone) inv))
      | in-Some+else-not-is_in w ↦
          subst Marked (sym w.marked-is) (marks_skip _ _ _ _ (λ e h. h.1 (subst (Has seats.untried) w.new.ensures w.if-not-is_in.ensures)) inv)
      | in_default w ↦
          (let nobody : ◌≡◌ {A = Option ℕ} (get_or seats.holders n None) None = read_holder seats.holders n n _ _ refl (omega (arith, c.loop-number-test.true, c.type_inv.holder-items)) w.in_default.is in
          subst Marked (sym w.marked-is) (marks_skip _ _ _ _ (λ e h. none_holds _ e nobody h.0) inv))
    ]
