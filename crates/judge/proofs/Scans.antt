-- One number more is done: the search stays what it is.
use Rattle.std.proofs.Common.{◌≡◌, ℕ, suc, ◌+◌, ◌*◌, ◌≤◌, Bool, true, false, cond, ◌⊎◌, Some, None, Option, sym, refl, ap, ◌∙◌, subst, inl, inr, ⊎_elim, arith}
use Rattle.std.proofs.lemmas.Bool.{both_ways, cases_Bool}
use Rattle.costs.specs.Kind.{Kind, Laws, AtMost}
use Rattle.tables.specs.Table.{Within}
use Rattle.tables.specs.declared.grade.Grade.{Grade}
use Rattle.tables.specs.declared.grade.Grade.TheVariants.{Closed, Open}
use Rattle.judge.specs.Prices.{Bounded}
use Rattle.judge.specs.Seating.{Small, put, Seating}
use Rattle.judge.specs.Search.{relax}
use Rattle.judge.specs.Tree.{Tree}
use Rattle.costs.proofs.Sums.{at_most_itself}
use Rattle.judge.proofs.Cells.{no_shortcut, keys_rise, back_again}
use Rattle.judge.proofs.Puts.{put_here, put_there, put_true, put_false}
use Rattle.judge.proofs.Seats.{once, seated, fresh}

module _ {C : Type 0} (k : Kind C) (laws : Laws k) where
  pub relax_from : (o : Option C) (y : Grade C) (l q : C) → relax k o y l ≡ Some q → (o ≡ Some q) ⊎ ((x : C) × (y ≡ Open x) × (q ≡ k.plus l x))
  relax_from o Closed l q e = inl e
  relax_from None (Open x) l q e = inr (x, refl, cc)
  relax_from (Some r) (Open x) l q e = go (k.at_most r (k.plus l x)) e
    where
      go : (b : Bool) → Some (cond b r (k.plus l x)) ≡ Some q → (Some r ≡ Some q) ⊎ ((z : C) × (Open x ≡ Open z) × (q ≡ k.plus l z))
      go true f = inl f
      go false f = inr (x, refl, cc)

  pub relax_reach : (o : Option C) (l x : C) → (q : C) × (relax k o (Open x) l ≡ Some q) × (AtMost k q (k.plus l x))
  relax_reach None l x = (k.plus l x, refl, at_most_itself k laws (k.plus l x))
  relax_reach (Some r) l x = go (k.at_most r (k.plus l x)) refl
    where
      go : (b : Bool) → k.at_most r (k.plus l x) ≡ b → (q : C) × (Some (cond b r (k.plus l x)) ≡ Some q) × (AtMost k q (k.plus l x))
      go true e = (r, refl, e)
      go false e = (k.plus l x, refl, at_most_itself k laws (k.plus l x))

  pub relax_keeps : (p : C) (y : Grade C) (l : C) → (q : C) × (relax k (Some p) y l ≡ Some q) × (AtMost k q p)
  relax_keeps p Closed l = (p, refl, at_most_itself k laws p)
  relax_keeps p (Open x) l = go (k.at_most p (k.plus l x)) refl (laws.order_total p (k.plus l x))
    where
      go : (b : Bool) → k.at_most p (k.plus l x) ≡ b → (AtMost k p (k.plus l x)) ⊎ (AtMost k (k.plus l x) p) → (q : C) × (Some (cond b p (k.plus l x)) ≡ Some q) × (AtMost k q p)
      go true e t = (p, refl, at_most_itself k laws p)
      go false e (inl t) = absurd (both_ways (k.at_most p (k.plus l x)) e t)
      go false e (inr t) = (k.plus l x, refl, t)

module _ {C : Type 0} (k : Kind C) (laws : Laws k) (g : ℕ → ℕ → Grade C) (s : ℕ) (bounded : Bounded k g s) (t r : ℕ) (few : t ≤ 64) (seat h : ℕ → ℕ) (u v : ℕ → C) (inside done : ℕ → Bool) (path : ℕ → Option C) (lead : ℕ → C)
    (seating : Seating k g s seat h u v) (tree : Tree k g s t r h v inside done path lead) (ri : Within s r) (rfree : seat r ≡ 0)
    (j : ℕ) (jw : Within s j) (held : 1 ≤ h j) (left : done j ≡ false) (p : C) (jp : path j ≡ Some p) (y : C) (jy : g (h j) j ≡ Open y)
    (nearest : (d : ℕ) → Within s d → done d ≡ false → (q : C) → path d ≡ Some q → AtMost k (k.minus p (v j)) (k.minus q (v d))) where
  abbrev pub l : C
  l = k.minus p y

  abbrev pub done' : ℕ → Bool
  done' = put done j true

  abbrev pub inside' : ℕ → Bool
  inside' = put inside (h j) true

  abbrev pub lead' : ℕ → C
  lead' = put lead (h j) l

  abbrev pub path' : ℕ → Option C
  path' c = cond (done' c) (path c) (relax k (path c) (g (h j) c) l)

  hw : Within s (h j)
  hw = (held, seating.holder_within j jw)

  hj : 1 ≤ seat (h j)
  hj = seated k g s seat h u v seating j jw held

  path_done : (c : ℕ) → done' c ≡ true → path' c ≡ path c
  path_done c e = ap (λ b. cond b (path c) (relax k (path c) (g (h j) c) l)) e

  path_left : (c : ℕ) → done' c ≡ false → path' c ≡ relax k (path c) (g (h j) c) l
  path_left c e = ap (λ b. cond b (path c) (relax k (path c) (g (h j) c) l)) e

  -- the pair of j and its holder is tight
  j_tight : k.plus (u (h j)) (v j) ≡ y
  j_tight = let r = seating.tight j jw held in let e : r.0 ≡ y = cc r.1 in r.2 ∙ e

  sp : Small k p
  sp = omega (arith, tree.small_path j jw p jp)

  open_small : (i c : ℕ) → Within s i → Within s c → (x : C) → g i c ≡ Open x → Small k x
  open_small i c iw cw x o = omega (arith, bounded i c iw cw x o)

  sy : Small k y
  sy = open_small (h j) j hw jw y jy

  -- what is reached from the holder has a key no less than that of j
  onward : (d : ℕ) → Within s d → (x : C) → g (h j) d ≡ Open x → AtMost k (k.minus p (v j)) (k.minus (k.plus l x) (v d))
  onward d dw x o =
      keys_rise k laws p (v d) (v j) (u (h j)) x y sp (seating.small_v d dw) (seating.small_v j jw) (seating.small_u (h j) hw hj) (open_small (h j) d hw dw x o) sy (seating.under (h j) d hw hj dw x o) j_tight

  root' : inside' r ≡ true
  root' = put_there inside (h j) true r (λ q. fresh k g s seat h u v seating r ri rfree j jw (sym q)) ∙ tree.root

  done_held' : (c : ℕ) → Within s c → done' c ≡ true → (1 ≤ h c) × (inside' (h c) ≡ true) × (q : C) × (path' c ≡ Some q) × (x : C) × (g (h c) c ≡ Open x) × (lead' (h c) ≡ k.minus q x)
  done_held' c cw e = go (put_true done j c e)
    where
      go : (c ≡ j) ⊎ ((c ≡ j → ⊥) × (done c ≡ true)) → (1 ≤ h c) × (inside' (h c) ≡ true) × (q : C) × (path' c ≡ Some q) × (x : C) × (g (h c) c ≡ Open x) × (lead' (h c) ≡ k.minus q x)
      go (inl q) =
          (subst (λ (z : ℕ). 1 ≤ h z) (sym q) held, ap (λ (z : ℕ). inside' (h z)) q ∙ put_here inside (h j) true, p, path_done c e ∙ ap path q ∙ jp, y, ap (λ (z : ℕ). g (h z) z) q ∙ jy, ap (λ (z : ℕ). lead' (h z)) q ∙ put_here lead (h j) l)
      go (inr q) =
          let d = tree.done_held c cw q.1 in
          let other : h c ≡ h j → ⊥ = λ r. q.0 (once k g s seat h u v seating c j cw jw d.0 r) in
          (d.0, put_there inside (h j) true (h c) other ∙ d.1, d.2, path_done c e ∙ d.3, d.4, d.5, put_there lead (h j) l (h c) other ∙ d.6)

  inside_done' : (c : ℕ) → Within s c → 1 ≤ h c → inside' (h c) ≡ true → done' c ≡ true
  inside_done' c cw hc e = go (put_true inside (h j) (h c) e)
    where
      go : (h c ≡ h j) ⊎ ((h c ≡ h j → ⊥) × (inside (h c) ≡ true)) → done' c ≡ true
      go (inl q) = ap done' (once k g s seat h u v seating c j cw jw hc q) ∙ put_here done j true
      go (inr q) = put_there done j true c (λ r. q.0 (ap h r)) ∙ tree.inside_done c cw hc q.1

  reach' : (i c : ℕ) → Within s i → inside' i ≡ true → Within s c → (x : C) → g i c ≡ Open x → (q : C) × (path' c ≡ Some q) × (AtMost k q (k.plus (lead' i) x))
  reach' i c iw e cw x o = go (put_true inside (h j) i e) (cases_Bool (done' c))
    where
      -- from the holder of j
      new : g (h j) c ≡ Open x → (done' c ≡ true) ⊎ (done' c ≡ false) → (q : C) × (path' c ≡ Some q) × (AtMost k q (k.plus l x))
      new f (inr a) = let r = relax_reach k laws (path c) l x in (r.0, path_left c a ∙ ap (λ z. relax k (path c) z l) f ∙ r.1, r.2)
      new f (inl a) = again (put_true done j c a)
        where
          again : (c ≡ j) ⊎ ((c ≡ j → ⊥) × (done c ≡ true)) → (q : C) × (path' c ≡ Some q) × (AtMost k q (k.plus l x))
          again (inl q) =
              let m : g (h j) j ≡ Open x = ap (g (h j)) (sym q) ∙ f in
              let z : y ≡ x = cc in
              (p, path_done c a ∙ ap path q ∙ jp, subst (λ w. AtMost k p (k.plus l w)) z (back_again k laws p y sp sy))
          again (inr q) =
              let d = tree.done_held c cw q.1 in (
                d.2,
                path_done c a ∙ d.3,
                no_shortcut k laws d.2 p (v c) (v j) (u (h j)) x y (omega (arith, tree.small_path c cw d.2 d.3)) sp (seating.small_v c cw) (seating.small_v j jw) (seating.small_u (h j) hw hj) (open_small (h j) c hw cw x f) sy
                    (tree.order c j cw jw q.1 left d.2 p d.3 jp) (seating.under (h j) c hw hj cw x f) j_tight,
              )

      go : (i ≡ h j) ⊎ ((i ≡ h j → ⊥) × (inside i ≡ true)) → (done' c ≡ true) ⊎ (done' c ≡ false) → (q : C) × (path' c ≡ Some q) × (AtMost k q (k.plus (lead' i) x))
      go (inl q) a =
          let r = new (ap (λ (z : ℕ). g z c) (sym q) ∙ o) a in
          (r.0, r.1, subst (λ w. AtMost k r.0 (k.plus w x)) (sym (ap lead' q ∙ put_here lead (h j) l)) r.2)
      go (inr q) (inl a) =
          let r = tree.reach i c iw q.1 cw x o in
          (r.0, path_done c a ∙ r.1, subst (λ w. AtMost k r.0 (k.plus w x)) (sym (put_there lead (h j) l i q.0)) r.2)
      go (inr q) (inr a) =
          let r = tree.reach i c iw q.1 cw x o in
          let m = relax_keeps k laws r.0 (g (h j) c) l in (
            m.0,
            path_left c a ∙ ap (λ z. relax k z (g (h j) c) l) r.1 ∙ m.1,
            subst (λ w. AtMost k m.0 (k.plus w x)) (sym (put_there lead (h j) l i q.0)) (laws.order_trans m.0 r.0 (k.plus (lead i) x) m.2 r.2),
          )

  order' : (c d : ℕ) → Within s c → Within s d → done' c ≡ true → done' d ≡ false → (a b : C) → path' c ≡ Some a → path' d ≡ Some b → AtMost k (k.minus a (v c)) (k.minus b (v d))
  order' c d cw dw e f a b pa pb = go (put_true done j c e) (relax_from k laws (path d) (g (h j) d) l b (sym (path_left d f) ∙ pb))
    where
      d-left : done d ≡ false
      d-left = (put_false done j d f).1

      here : path c ≡ Some a
      here = sym (path_done c e) ∙ pa

      go : (c ≡ j) ⊎ ((c ≡ j → ⊥) × (done c ≡ true)) → (path d ≡ Some b) ⊎ ((x : C) × (g (h j) d ≡ Open x) × (b ≡ k.plus l x)) → AtMost k (k.minus a (v c)) (k.minus b (v d))
      go (inl q) (inl m) =
          let z : a ≡ p = let w : path j ≡ Some a = ap path (sym q) ∙ here in cc in
          subst (λ (i : ℕ). AtMost k (k.minus a (v i)) (k.minus b (v d))) (sym q) (subst (λ w. AtMost k (k.minus w (v j)) (k.minus b (v d))) (sym z) (nearest d dw d-left b m))
      go (inl q) (inr m) =
          let z : a ≡ p = let w : path j ≡ Some a = ap path (sym q) ∙ here in cc in
          subst (λ (i : ℕ). AtMost k (k.minus a (v i)) (k.minus b (v d))) (sym q) (subst (λ w. AtMost k (k.minus w (v j)) (k.minus b (v d))) (sym z) (subst (λ w. AtMost k (k.minus p (v j)) (k.minus w (v d))) (sym m.2) (onward d dw m.0 m.1)))
      go (inr q) (inl m) = tree.order c d cw dw q.1 d-left a b here m
      go (inr q) (inr m) =
          laws.order_trans (k.minus a (v c)) (k.minus p (v j)) (k.minus b (v d)) (tree.order c j cw jw q.1 left a p here jp)
          (subst (λ w. AtMost k (k.minus p (v j)) (k.minus w (v d))) (sym m.2) (onward d dw m.0 m.1))

  span_l : k.span l ≤ t * 200000 + 200000
  span_l = omega (arith, laws.minus_span p y, tree.small_path j jw p jp, bounded (h j) j hw jw y jy)

  small_path' : (c : ℕ) → Within s c → (q : C) → path' c ≡ Some q → k.span q ≤ suc t * 200000 + 100000
  small_path' c cw q e = go (cases_Bool (done' c))
    where
      go : (done' c ≡ true) ⊎ (done' c ≡ false) → k.span q ≤ suc t * 200000 + 100000
      go (inl a) = omega (arith, tree.small_path c cw q (sym (path_done c a) ∙ e))
      go (inr a) =
          ⊎_elim (λ (m : path c ≡ Some q). omega (arith, tree.small_path c cw q m))
          (λ (m : (x : C) × (g (h j) c ≡ Open x) × (q ≡ k.plus l x)). subst (λ w. k.span w ≤ suc t * 200000 + 100000) (sym m.2) (omega (arith, laws.plus_span l m.0, span_l, bounded (h j) c hw cw m.0 m.1)))
          (relax_from k laws (path c) (g (h j) c) l q (sym (path_left c a) ∙ e))

  small_lead' : (i : ℕ) → Within s i → inside' i ≡ true → k.span (lead' i) ≤ suc t * 200000
  small_lead' i iw e =
      ⊎_elim (λ (q : i ≡ h j). subst (λ w. k.span w ≤ suc t * 200000) (sym (ap lead' q ∙ put_here lead (h j) l)) (omega (arith, span_l)))
      (λ (q : (i ≡ h j → ⊥) × (inside i ≡ true)). subst (λ w. k.span w ≤ suc t * 200000) (sym (put_there lead (h j) l i q.0)) (omega (arith, tree.small_lead i iw q.1)))
      (put_true inside (h j) i e)

  pub scan : Tree k g s (suc t) r h v inside' done' path' lead'
  scan = record {
    root = root';
    done_held = done_held';
    inside_done = inside_done';
    reach = reach';
    order = order';
    small_path = small_path';
    small_lead = small_lead';
  }
