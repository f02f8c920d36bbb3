-- How a search starts, and what it shows where it gets stuck.
use Rattle.std.proofs.Common.{◌≡◌, ℕ, ◌+◌, ◌*◌, ◌≤◌, Bool, true, false, eqb, Some, None, Option, sym, refl, ap, ◌∙◌, subst, ⊎_elim, arith}
use Rattle.std.proofs.lemmas.Bool.{eq-eqb, eqb-true, false≢true}
use Rattle.costs.specs.Kind.{Kind, Laws}
use Rattle.tables.specs.Table.{Within}
use Rattle.tables.specs.declared.grade.Grade.{Grade}
use Rattle.tables.specs.declared.grade.Grade.TheVariants.{Open}
use Rattle.judge.specs.Allowed.{opens}
use Rattle.judge.specs.Prices.{Bounded}
use Rattle.judge.specs.Marks.{events_in, Short}
use Rattle.judge.specs.Seating.{Seating}
use Rattle.judge.specs.Search.{relax}
use Rattle.judge.specs.Tree.{Tree}
use Rattle.judge.proofs.Pairs.{opened}
use Rattle.judge.proofs.Crowds.{crowded}
use Rattle.judge.proofs.Puts.{none_some}
use Rattle.judge.proofs.Scans.{relax_from, relax_reach}
use Rattle.judge.proofs.Seats.{once, fresh}

module _ {C : Type 0} (k : Kind C) (laws : Laws k) (g : ℕ → ℕ → Grade C) (s : ℕ) (seat h : ℕ → ℕ) (u v : ℕ → C) (seating : Seating k g s seat h u v) (r : ℕ) (ri : Within s r) (rfree : seat r ≡ 0) where
  -- the search begins: event r alone is inside
  pub start : Bounded k g s → Tree k g s 0 r h v (λ i. eqb i r) (λ c. false) (λ c. relax k None (g r c) k.zero) (λ i. k.zero)
  start bounded = record {
    root = eq-eqb r r refl;
    done_held = λ c w e. absurd (false≢true e);
    inside_done = λ c w hc e. absurd (fresh k g s seat h u v seating r ri rfree c w (eqb-true (h c) r e));
    reach = λ i c iw e cw x o.
        (let q = eqb-true i r e in
        let b = relax_reach k laws None k.zero x in
        (b.0, ap (λ z. relax k None z k.zero) (ap (λ (z : ℕ). g z c) (sym q) ∙ o) ∙ b.1, b.2));
    order = λ c d cw dw e f p q. absurd (false≢true e);
    small_path = λ c w p e.
        ⊎_elim (λ (m : None ≡ Some p). absurd (none_some p m))
        (λ (m : (x : C) × (g r c ≡ Open x) × (p ≡ k.plus k.zero x)). subst (λ z. k.span z ≤ 0 * 200000 + 100000) (sym m.2) (omega (arith, laws.plus_span k.zero m.0, laws.zero_span, bounded r c ri w m.0 m.1)))
        (relax_from k laws None (g r c) k.zero p e);
    small_lead = λ i w e. omega (arith, laws.zero_span);
  }

  -- no number left to go on with: the events inside are more than their open numbers
  module _ (t : ℕ) (inside done : ℕ → Bool) (path : ℕ → Option C) (lead : ℕ → C) (tree : Tree k g s t r h v inside done path lead)
      (stuck : (d : ℕ) → Within s d → (p : C) → path d ≡ Some p → done d ≡ true) where
    pub too_few : Short (opens g) s (events_in s inside)
    too_few =
        crowded (opens g) s r ri inside done h tree.root
        (λ c w e. let d = tree.done_held c w e in ((d.0, seating.holder_within c w), d.1, fresh k g s seat h u v seating r ri rfree c w))
        (λ c d cw dw e f. once k g s seat h u v seating c d cw dw (tree.done_held c cw e).0)
        (λ i c iw cw a o. let x = opened (g i c) o in let b = tree.reach i c iw a cw x.0 x.1 in stuck c cw b.0 b.1)
