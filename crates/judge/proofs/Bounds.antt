-- The grades that a sound table answers have bounded costs.
use Rattle.std.proofs.Common.{◌≡◌, ℕ, ◌≤◌, true, cond, leb, sym, ap, ◌∙◌, subst, arith}
use Rattle.std.proofs.lemmas.Bool.{and_from, le-leb}
use Rattle.costs.specs.Kind.{Kind}
use Rattle.tables.specs.Table.{Table, Within, within, Spans, Sound, pair_at}
use Rattle.tables.specs.declared.grade.Grade.TheVariants.{Closed}
use Rattle.judge.specs.Prices.{Bounded}

-- the test that n is one of 1 to s
pub within_true : (s n : ℕ) → Within s n → within s n ≡ true
within_true s n w = and_from (leb 1 n) (leb n s) (le-leb 1 n w.0) (le-leb n s w.1)

module _ {C : Type 0} (k : Kind C) (t : Table C) where
  -- within the size a table answers what its pairing says
  pub pair_is : (r c : ℕ) → Within t.size r → Within t.size c → pair_at t r c ≡ t.pairing t.window r c
  pair_is r c rw' cw =
      ap (λ b. cond b (t.pairing t.window r c) Closed) (and_from (within t.size r) (within t.size c) (within_true t.size r rw') (within_true t.size c cw))

  pub sound_bounded : Sound k t → Bounded k (pair_at t) t.size
  sound_bounded sound r c rw' cw x e =
      subst (Spans k 100000) (sym (pair_is r c rw' cw) ∙ e) (sound.spans t.window sound.held r c rw' cw)

  pub sound_size : Sound k t → t.size ≤ 64
  sound_size sound = omega (arith, sound.size_to)
