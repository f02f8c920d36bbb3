-- How each path of a search was found, and the order in which numbers were done.
use Rattle.std.proofs.Common.{◌≡◌, ℕ, suc, ◌<◌, ◌≤◌, Bool, true, false, cond, not, eqb, ◌⊎◌, List, [], ◌∷◌, Some, None, Option, sym, refl, ap, ◌∙◌, subst, inl, inr, ⊎_elim, arith}
use Rattle.std.proofs.lemmas.Bool.{both_ways, cases_Bool, cases_eq, eq-eqb, eqb-true, false≢true}
use Rattle.costs.specs.Kind.{Kind}
use Rattle.costs.specs.Lists.{In}
use Rattle.tables.specs.Table.{Within}
use Rattle.tables.specs.declared.grade.Grade.{Grade}
use Rattle.tables.specs.declared.grade.Grade.TheVariants.{Closed, Open}
use Rattle.judge.specs.Seating.{put, Seating}
use Rattle.judge.specs.Search.{relax, better}
use Rattle.judge.specs.Tree.{Tree, Trail}
use Rattle.judge.proofs.Puts.{put_here, put_there, put_true, none_some}
use Rattle.judge.proofs.Seats.{seated}

module _ {C : Type 0} (k : Kind C) where
  pub relax_cases : (o : Option C) (y : Grade C) (q : C) → ((better k o y q ≡ true) × (x : C) × (y ≡ Open x) × (relax k o y q ≡ Some (k.plus q x))) ⊎ ((better k o y q ≡ false) × (relax k o y q ≡ o))
  relax_cases o Closed q = inr (refl, refl)
  relax_cases None (Open x) q = inl (refl, x, refl, refl)
  relax_cases (Some p) (Open x) q = go (k.at_most p (k.plus q x))
    where
      go : (b : Bool) → ((not b ≡ true) × (z : C) × (Open x ≡ Open z) × (Some (cond b p (k.plus q x)) ≡ Some (k.plus q z))) ⊎ ((not b ≡ false) × (Some (cond b p (k.plus q x)) ≡ Some p))
      go true = inr (refl, refl)
      go false = inl (refl, x, refl, refl)

module _ {C : Type 0} (k : Kind C) (g : ℕ → ℕ → Grade C) (s : ℕ) where
  pub start_trail : (r : ℕ) → Within s r → (seat h : ℕ → ℕ) → Trail k g s 0 r seat h (λ i. eqb i r) (λ c. false) (λ c. relax k None (g r c) k.zero) (λ i. k.zero) (λ c. r) (λ c. 0) []
  start_trail r ri seat h = record {
    by_in = λ c w p e. first c p e (relax_cases k None (g r c) k.zero);
    falls = λ c d cw dw e. absurd (false≢true e);
    ranked = λ c w e. absurd (false≢true e);
    upto = λ i e. (let q = eqb-true i r e in (subst (Within s) (sym q) ri, inl q));
    many = refl;
    apart = tt;
    all_within = tt;
    seen_done = λ c m. absurd m;
  }
    where
      first : (c : ℕ) (p : C) → relax k None (g r c) k.zero ≡ Some p → ((better k None (g r c) k.zero ≡ true) × (x : C) × (g r c ≡ Open x) × (relax k None (g r c) k.zero ≡ Some (k.plus k.zero x))) ⊎ ((better k None (g r c) k.zero ≡ false) × (relax k None (g r c) k.zero ≡ None)) → Within s r × (eqb r r ≡ true) × (x : C) × (g r c ≡ Open x) × (p ≡ k.plus k.zero x)
      first c p e (inl b) = (ri, eq-eqb r r refl, b.1, b.2, cc b.3)
      first c p e (inr b) = absurd (none_some p (sym b.1 ∙ e))

module _ {C : Type 0} (k : Kind C) (g : ℕ → ℕ → Grade C) (s : ℕ) (t r : ℕ) (seat h : ℕ → ℕ) (u v : ℕ → C) (inside done : ℕ → Bool) (path : ℕ → Option C) (lead : ℕ → C)
    (seating : Seating k g s seat h u v) (tree : Tree k g s t r h v inside done path lead)
    (j : ℕ) (jw : Within s j) (held : 1 ≤ h j) (left : done j ≡ false) (p : C) (jp : path j ≡ Some p) (y : C)
    (by rank : ℕ → ℕ) (seen : List ℕ) (trail : Trail k g s t r seat h inside done path lead by rank seen) where
  q : C
  q = k.minus p y

  d' : ℕ → Bool
  d' = put done j true

  i' : ℕ → Bool
  i' = put inside (h j) true

  e' : ℕ → C
  e' = put lead (h j) (k.minus p y)

  p' : ℕ → Option C
  p' c = cond (put done j true c) (path c) (relax k (path c) (g (h j) c) (k.minus p y))

  abbrev pub by' : ℕ → ℕ
  by' c = cond (put done j true c) (by c) (cond (better k (path c) (g (h j) c) (k.minus p y)) (h j) (by c))

  abbrev pub rank' : ℕ → ℕ
  rank' = put rank j t

  -- the holder of j was not inside
  new : (i : ℕ) → inside i ≡ true → i ≡ h j → ⊥
  new i a r = both_ways (done j) left (tree.inside_done j jw held (sym (ap inside r) ∙ a))

  -- a path that stays was found by the same event
  stays : (c : ℕ) → Within s c → (a : C) → path c ≡ Some a → Within s (by c) × (i' (by c) ≡ true) × (x : C) × (g (by c) c ≡ Open x) × (a ≡ k.plus (e' (by c)) x)
  unfolding i' e'
  stays c cw a f =
      let o = trail.by_in c cw a f in
      let other : by c ≡ h j → ⊥ = new (by c) o.1 in
      (o.0, put_there inside (h j) true (by c) other ∙ o.1, o.2, o.3, o.4 ∙ ap (λ z. k.plus z o.2) (sym (put_there lead (h j) (k.minus p y) (by c) other)))

  by_done : (c : ℕ) → d' c ≡ true → by' c ≡ by c
  unfolding d'
  by_done c e = ap (λ b. cond b (by c) (cond (better k (path c) (g (h j) c) (k.minus p y)) (h j) (by c))) e

  by_in' : (c : ℕ) → Within s c → (a : C) → p' c ≡ Some a → Within s (by' c) × (i' (by' c) ≡ true) × (x : C) × (g (by' c) c ≡ Open x) × (a ≡ k.plus (e' (by' c)) x)
  unfolding d' i' e' p'
  by_in' c cw a f = go (cases_Bool (put done j true c)) (relax_cases k (path c) (g (h j) c) (k.minus p y))
    where
      Goal : ℕ → Type 0
      Goal b = Within s b × (put inside (h j) true b ≡ true) × (x : C) × (g b c ≡ Open x) × (a ≡ k.plus (put lead (h j) (k.minus p y) b) x)

      go : (put done j true c ≡ true) ⊎ (put done j true c ≡ false) → ((better k (path c) (g (h j) c) (k.minus p y) ≡ true) × (x : C) × (g (h j) c ≡ Open x) × (relax k (path c) (g (h j) c) (k.minus p y) ≡ Some (k.plus (k.minus p y) x))) ⊎ ((better k (path c) (g (h j) c) (k.minus p y) ≡ false) × (relax k (path c) (g (h j) c) (k.minus p y) ≡ path c)) → Goal (by' c)
      go (inl d) r = subst Goal (sym (by_done c d)) (stays c cw a (sym (ap (λ b. cond b (path c) (relax k (path c) (g (h j) c) (k.minus p y))) d) ∙ f))
      go (inr d) (inl r) =
          let now : relax k (path c) (g (h j) c) (k.minus p y) ≡ Some a = sym (ap (λ b. cond b (path c) (relax k (path c) (g (h j) c) (k.minus p y))) d) ∙ f in
          let same : a ≡ k.plus (k.minus p y) r.1 = cc (now, r.3) in
          subst Goal (sym (ap (λ b. cond b (by c) (cond (better k (path c) (g (h j) c) (k.minus p y)) (h j) (by c))) d ∙ ap (λ b. cond b (h j) (by c)) r.0))
          ((held, seating.holder_within j jw), put_here inside (h j) true, r.1, r.2, same ∙ ap (λ z. k.plus z r.1) (sym (put_here lead (h j) (k.minus p y))))
      go (inr d) (inr r) =
          let now : relax k (path c) (g (h j) c) (k.minus p y) ≡ Some a = sym (ap (λ b. cond b (path c) (relax k (path c) (g (h j) c) (k.minus p y))) d) ∙ f in
          subst Goal (sym (ap (λ b. cond b (by c) (cond (better k (path c) (g (h j) c) (k.minus p y)) (h j) (by c))) d ∙ ap (λ b. cond b (h j) (by c)) r.0))
          (stays c cw a (sym r.1 ∙ now))

  by_inside : (c : ℕ) → Within s c → d' c ≡ true → inside (by c) ≡ true
  unfolding d'
  by_inside c cw e =
      ⊎_elim (λ (z : c ≡ j). (trail.by_in c cw p (ap path z ∙ jp)).1) (λ (z : (c ≡ j → ⊥) × (done c ≡ true)). let d = tree.done_held c cw z.1 in (trail.by_in c cw d.2 d.3).1) (put_true done j c e)

  falls' : (c d : ℕ) → Within s c → Within s d → d' c ≡ true → d' d ≡ true → h d ≡ by' c → rank' d < rank' c
  unfolding d'
  falls' c d cw dw e f r = go (put_true done j c e) (put_true done j d f)
    where
      r' : h d ≡ by c
      r' = r ∙ by_done c e

      go : (c ≡ j) ⊎ ((c ≡ j → ⊥) × (done c ≡ true)) → (d ≡ j) ⊎ ((d ≡ j → ⊥) × (done d ≡ true)) → rank' d < rank' c
      go x (inl z) = absurd (new (by c) (by_inside c cw e) (sym r' ∙ ap h z))
      go (inl x) (inr z) = omega (arith, put_there rank j t d z.0, ap (put rank j t) x ∙ put_here rank j t, trail.ranked d dw z.1)
      go (inr x) (inr z) = omega (arith, put_there rank j t d z.0, put_there rank j t c x.0, trail.falls c d cw dw x.1 z.1 r')

  pub scan_trail : Trail k g s (suc t) r seat h (put inside (h j) true) (put done j true) (λ c. cond (put done j true c) (path c) (relax k (path c) (g (h j) c) (k.minus p y))) (put lead (h j) (k.minus p y)) by' rank' (j ∷ seen)
  unfolding d' i' e' p'
  scan_trail = record {
    by_in = by_in';
    falls = falls';
    ranked = λ c w e. ⊎_elim (λ (z : c ≡ j). omega (arith, ap (put rank j t) z ∙ put_here rank j t)) (λ (z : (c ≡ j → ⊥) × (done c ≡ true)). omega (arith, put_there rank j t c z.0, trail.ranked c w z.1)) (put_true done j c e);
    upto = λ i e. ⊎_elim (λ (z : i ≡ h j). (subst (Within s) (sym z) (held, seating.holder_within j jw), inr (subst (λ (x : ℕ). 1 ≤ seat x) (sym z) (seated k g s seat h u v seating j jw held)))) (λ (z : (i ≡ h j → ⊥) × (inside i ≡ true)). trail.upto i z.1) (put_true inside (h j) i e);
    many = ap suc trail.many;
    apart = (λ m. both_ways (done j) left (trail.seen_done j m), trail.apart);
    all_within = (jw, trail.all_within);
    seen_done = λ c m. ⊎_elim (λ (z : c ≡ j). ap (put done j true) z ∙ put_here done j true) (λ (z : In c seen). ⊎_elim (λ (w : c ≡ j). ap (put done j true) w ∙ put_here done j true) (λ (w : c ≡ j → ⊥). put_there done j true c w ∙ trail.seen_done c z) (cases_eq c j)) m;
  }
