use Rattle.std.proofs.Common.{ℕ, get_or, refl, subst, arith}
use Rattle.judge.specs.BitRows.{Has}
use Rattle.judge.proofs.Holders.{read_holder, no_holder, freed_already, placed_freed}
use Rattle.judge.proofs.matching.Matching.seat_one_more.Goals as goal

pub invariant_of-self : goal.invariant_of-self
invariant_of-self c =
    let seats = c.args.self.now in
    let at = c.index-then-is_none.ensures in
    let free = read_holder _ _ _ _ _ c.index-then-is_in.ensures.index (omega (arith, at.below, seats.placed.long)) (no_holder _ c.if-is_none.ensures) in
    (rw at.index (placed_freed seats seats seats _ _ at.below (freed_already seats _ free) refl refl c.requires.standing (subst (λ (k : ℕ). Has (get_or seats.rows k 0) c.args.event) c.index.ensures.index c.if-is_in.ensures)), tt)
