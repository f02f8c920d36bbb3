-- What the end of a search gives: new prices that fit, the path turned over included.
use Rattle.std.proofs.Common.{◌≡◌, ℕ, ◌≤◌, Bool, true, false, cond, Some, Option, refl, ap, ◌∙◌, inl, inr, ⊎_elim, arith}
use Rattle.std.proofs.lemmas.Bool.{both_ways, cases_Bool}
use Rattle.costs.specs.Kind.{Kind, Laws, AtMost}
use Rattle.tables.specs.Table.{Within}
use Rattle.tables.specs.declared.grade.Grade.{Grade}
use Rattle.tables.specs.declared.grade.Grade.TheVariants.{Open}
use Rattle.judge.specs.Prices.{Bounded}
use Rattle.judge.specs.Seating.{Small, Joined, Fit, Seating}
use Rattle.judge.specs.Search.{lowered, repriced, raised}
use Rattle.judge.specs.Tree.{Tree}
use Rattle.judge.proofs.Cells.{both_in, event_in, number_in, way_tight, held_tight, end_tight, free_key}

module _ {C : Type 0} (k : Kind C) (laws : Laws k) (g : ℕ → ℕ → Grade C) (s : ℕ) where
  module _ (bounded : Bounded k g s) (t r : ℕ) (few : t ≤ 64) (seat h : ℕ → ℕ) (u v : ℕ → C) (inside done : ℕ → Bool) (path : ℕ → Option C) (lead : ℕ → C)
      (seating : Seating k g s seat h u v) (tree : Tree k g s t r h v inside done path lead)
      (j : ℕ) (jw : Within s j) (jfree : h j ≡ 0) (e : C) (je : path j ≡ Some e)
      (nearest : (d : ℕ) → Within s d → done d ≡ false → (q : C) → path d ≡ Some q → AtMost k e (k.minus q (v d))) where
    abbrev pub u' : ℕ → C
    u' = raised k inside lead e u

    abbrev pub v' : ℕ → C
    v' = repriced k done path e v

    j-left : done j ≡ false
    j-left = go (done j) refl
      where
        go : (b : Bool) → done j ≡ b → done j ≡ false
        go true t = let o = (tree.done_held j jw t).0 in absurd (omega arith)
        go false t = t

    u-in : (i : ℕ) → inside i ≡ true → u' i ≡ k.minus e (lead i)
    u-in i t = ap (λ b. cond b (k.minus e (lead i)) (u i)) t

    u-out : (i : ℕ) → inside i ≡ false → u' i ≡ u i
    u-out i t = ap (λ b. cond b (k.minus e (lead i)) (u i)) t

    v-in : (c : ℕ) (p : C) → done c ≡ true → path c ≡ Some p → v' c ≡ k.minus p e
    v-in c p t f = ap (λ b. lowered k b (path c) e (v c)) t ∙ ap (λ q. lowered k true q e (v c)) f

    v-out : (c : ℕ) → done c ≡ false → v' c ≡ v c
    v-out c t = ap (λ b. lowered k b (path c) e (v c)) t

    small-e : Small k e
    small-e = omega (arith, tree.small_path j jw e je)

    lead-small : (i : ℕ) → Within s i → inside i ≡ true → Small k (lead i)
    lead-small i w a = omega (arith, tree.small_lead i w a)

    path-small : (c : ℕ) → Within s c → (p : C) → path c ≡ Some p → Small k p
    path-small c w p f = omega (arith, tree.small_path c w p f)

    -- a number that is done has a key of at most e
    key-e : (c : ℕ) → Within s c → done c ≡ true → (p : C) → path c ≡ Some p → AtMost k (k.minus p (v c)) e
    key-e c w t p f = free_key k laws (k.minus p (v c)) e (v j) small-e (seating.free j jw jfree) (tree.order c j w jw t j-left p e f je)

    -- an event outside is not the new one
    inner : (i : ℕ) → Joined seat r i → inside i ≡ false → 1 ≤ seat i
    inner i (inl q) t = absurd (both_ways (inside i) t (ap inside q ∙ tree.root))
    inner i (inr m) t = m

    pub under' : (i c : ℕ) → Within s i → Joined seat r i → Within s c → (x : C) → g i c ≡ Open x → AtMost k (k.plus (u' i) (v' c)) x
    under' i c iw ij cw x o = go (inside i) refl (done c) refl
      where
        sx : Small k x
        sx = omega (arith, bounded i c iw cw x o)

        go : (a : Bool) → inside i ≡ a → (b : Bool) → done c ≡ b → AtMost k (k.plus (u' i) (v' c)) x
        go true a true b =
            let r = tree.reach i c iw a cw x o in
            rw (u-in i a, v-in c r.0 b r.1) (both_in k laws e (lead i) r.0 x small-e (omega (arith, tree.small_lead i iw a)) (omega (arith, tree.small_path c cw r.0 r.1)) sx r.2)
        go true a false b =
            let r = tree.reach i c iw a cw x o in
            rw (u-in i a, v-out c b) (event_in k laws e (lead i) r.0 x (v c) small-e (omega (arith, tree.small_lead i iw a)) (omega (arith, tree.small_path c cw r.0 r.1)) sx (seating.small_v c cw) r.2 (nearest c cw b r.0 r.1))
        go false a true b =
            let d = tree.done_held c cw b in
            rw (u-out i a, v-in c d.2 b d.3) (number_in k laws e d.2 x (u i) (v c) small-e (omega (arith, tree.small_path c cw d.2 d.3)) sx (seating.small_u i iw (inner i ij a)) (seating.small_v c cw) (seating.under i c iw (inner i ij a) cw x o) (key-e c cw b d.2 d.3))
        go false a false b = rw (u-out i a, v-out c b) (seating.under i c iw (inner i ij a) cw x o)

    -- a pair that stays stays tight
    pub stays_tight : (c : ℕ) → Within s c → 1 ≤ h c → Fit k g s u' v' (h c) c
    stays_tight c cw hc = go (done c) refl
      where
        hw : Within s (h c)
        hw = (hc, seating.holder_within c cw)

        go : (b : Bool) → done c ≡ b → Fit k g s u' v' (h c) c
        go true b =
            let d = tree.done_held c cw b in
            (d.4, d.5, rw (u-in (h c) d.1, v-in c d.2 b d.3, d.6) (held_tight k laws e d.2 d.4 small-e (omega (arith, tree.small_path c cw d.2 d.3)) (omega (arith, bounded (h c) c hw cw d.4 d.5))))
        go false b =
            let t = seating.tight c cw hc in
            let away : inside (h c) ≡ false = ⊎_elim (λ (q : inside (h c) ≡ true). absurd (both_ways (done c) b (tree.inside_done c cw hc q))) (λ (q : inside (h c) ≡ false). q) (cases_Bool (inside (h c))) in
            (t.0, t.1, rw (u-out (h c) away, v-out c b) t.2)

    -- a pair by which a path was found becomes tight
    pub becomes_tight : (i c : ℕ) → Within s i → inside i ≡ true → Within s c → done c ≡ true → (p x : C) → path c ≡ Some p → g i c ≡ Open x → p ≡ k.plus (lead i) x → k.plus (u' i) (v' c) ≡ x
    becomes_tight i c iw t cw d p x f o q =
        rw (u-in i t, v-in c p d f) (way_tight k laws e (lead i) p x small-e (omega (arith, tree.small_lead i iw t)) (omega (arith, tree.small_path c cw p f)) (omega (arith, bounded i c iw cw x o)) q)

    pub end_becomes_tight : (i : ℕ) → Within s i → inside i ≡ true → (x : C) → g i j ≡ Open x → e ≡ k.plus (lead i) x → k.plus (u' i) (v' j) ≡ x
    end_becomes_tight i iw t x o q =
        rw (u-in i t, v-out j j-left, seating.free j jw jfree) (end_tight k laws (lead i) e x (omega (arith, tree.small_lead i iw t)) small-e (omega (arith, bounded i j iw jw x o)) q)

    pub free' : (c : ℕ) → Within s c → h c ≡ 0 → v' c ≡ k.zero
    free' c cw z =
        ⊎_elim (λ (t : done c ≡ true). let o = (tree.done_held c cw t).0 in absurd (omega arith)) (λ (t : done c ≡ false). v-out c t ∙ seating.free c cw z) (cases_Bool (done c))

    pub small_u' : (i : ℕ) → Within s i → Joined seat r i → Small k (u' i)
    small_u' i iw ij =
        ⊎_elim (λ (t : inside i ≡ true). rw (u-in i t) (omega (arith, laws.minus_span e (lead i), tree.small_lead i iw t, tree.small_path j jw e je)))
        (λ (t : inside i ≡ false). rw (u-out i t) (seating.small_u i iw (inner i ij t))) (cases_Bool (inside i))

    pub small_v' : (c : ℕ) → Within s c → Small k (v' c)
    small_v' c cw =
        ⊎_elim (λ (t : done c ≡ true). let d = tree.done_held c cw t in rw (v-in c d.2 t d.3) (omega (arith, laws.minus_span d.2 e, tree.small_path c cw d.2 d.3, tree.small_path j jw e je)))
        (λ (t : done c ≡ false). rw (v-out c t) (seating.small_v c cw)) (cases_Bool (done c))
