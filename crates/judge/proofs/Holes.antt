-- The way to a free number turned over: each event on it takes the number that it found. At the end one event more is seated.
use Rattle.std.proofs.Common.{◌≡◌, ℕ, ◌<◌, ◌≤◌, Bool, true, ◌⊎◌, sym, refl, ap, ◌∙◌, subst, inl, inr, ⊎_elim, arith}
use Rattle.costs.specs.Kind.{Kind, AtMost}
use Rattle.tables.specs.Table.{Within}
use Rattle.tables.specs.declared.grade.Grade.{Grade}
use Rattle.tables.specs.declared.grade.Grade.TheVariants.{Open}
use Rattle.judge.specs.Seating.{Small, put, Joined, Fit, Seating, SeatsOneMore}
use Rattle.judge.specs.Turning.{Ways, Hole}
use Rattle.judge.proofs.Puts.{put_here, put_there, at_put}

module _ {C : Type 0} (k : Kind C) (g : ℕ → ℕ → Grade C) (s r : ℕ) (seat₀ h₀ : ℕ → ℕ) (a w : ℕ → C) (inside done : ℕ → Bool) (by rank : ℕ → ℕ)
    (ways : Ways k g s r seat₀ h₀ a w inside done by rank) where
  module _ (seat h : ℕ → ℕ) (j b : ℕ) (hole : Hole k g s r seat₀ h₀ a w inside done by rank seat h j b) where
    -- the event has a number d: that stands open now
    module _ (d : ℕ) (dw : Within s d) (dd : done d ≡ true) (e : h₀ d ≡ by j) (d-is : d ≡ seat₀ (by j)) where
      abbrev i : ℕ
      i = by j

      abbrev seat' : ℕ → ℕ
      seat' = put seat (by j) j

      abbrev h' : ℕ → ℕ
      h' = put h j (by j)

      low : rank d < b
      low = hole.lower d dw dd e

      at-d : h d ≡ by j
      at-d = (hole.kept d dw dd low).0 ∙ e

      d≢j : d ≡ j → ⊥
      d≢j = (hole.kept d dw dd low).1

      one : 1 ≤ by j
      one = hole.next.0.0

      seat-d : seat (by j) ≡ d
      seat-d = ap seat (sym at-d) ∙ hole.holder_seat d dw d≢j (omega (arith, at-d, one))

      seat-within' : (f : ℕ) → Within s f → seat' f ≤ s
      seat-within' f fw =
          ⊎_elim (λ (q : (f ≡ i) × (seat' f ≡ j)). omega (arith, q.1, hole.within)) (λ (q : (f ≡ i → ⊥) × (seat' f ≡ seat f)). omega (arith, q.1, hole.seat_within f fw)) (at_put seat i j f)

      holder-within' : (c : ℕ) → Within s c → (c ≡ d → ⊥) → h' c ≤ s
      holder-within' c cw n =
          ⊎_elim (λ (q : (c ≡ j) × (h' c ≡ i)). omega (arith, q.1, hole.next.0.1)) (λ (q : (c ≡ j → ⊥) × (h' c ≡ h c)). omega (arith, q.1, hole.holder_within c cw q.0)) (at_put h j i c)

      seat-holder' : (f : ℕ) → Within s f → 1 ≤ seat' f → (seat' f ≡ d → ⊥) × (h' (seat' f) ≡ f)
      seat-holder' f fw o = go (at_put seat i j f)
        where
          go : ((f ≡ i) × (seat' f ≡ j)) ⊎ ((f ≡ i → ⊥) × (seat' f ≡ seat f)) → (seat' f ≡ d → ⊥) × (h' (seat' f) ≡ f)
          go (inl q) = ((λ z. d≢j (sym z ∙ q.1)), ap h' q.1 ∙ put_here h j i ∙ sym q.0)
          go (inr q) =
              let b = hole.seat_holder f fw (omega (arith, q.1, o)) in
              ((λ z. q.0 (sym b.1 ∙ ap h (sym q.1 ∙ z) ∙ at-d)), ap h' q.1 ∙ put_there h j i (seat f) b.0 ∙ b.1)

      holder-seat' : (c : ℕ) → Within s c → (c ≡ d → ⊥) → 1 ≤ h' c → seat' (h' c) ≡ c
      holder-seat' c cw n o = go (at_put h j i c)
        where
          go : ((c ≡ j) × (h' c ≡ i)) ⊎ ((c ≡ j → ⊥) × (h' c ≡ h c)) → seat' (h' c) ≡ c
          go (inl q) = ap seat' q.1 ∙ put_here seat i j ∙ sym q.0
          go (inr q) =
              let back = hole.holder_seat c cw q.0 (omega (arith, q.1, o)) in
              ap seat' q.1 ∙ put_there seat i j (h c) (λ z. n (sym back ∙ ap seat z ∙ seat-d)) ∙ back

      fit' : (c : ℕ) → Within s c → (c ≡ d → ⊥) → 1 ≤ h' c → Fit k g s a w (h' c) c
      fit' c cw n o = go (at_put h j i c)
        where
          go : ((c ≡ j) × (h' c ≡ i)) ⊎ ((c ≡ j → ⊥) × (h' c ≡ h c)) → Fit k g s a w (h' c) c
          go (inl q) = subst (λ (z : ℕ). Fit k g s a w z c) (sym q.1) (subst (λ (z : ℕ). Fit k g s a w i z) (sym q.0) hole.next.2)
          go (inr q) = subst (λ (z : ℕ). Fit k g s a w z c) (sym q.1) (hole.fit c cw q.0 (omega (arith, q.1, o)))

      free' : (c : ℕ) → Within s c → (c ≡ d → ⊥) → h' c ≡ 0 → w c ≡ k.zero
      free' c cw n z =
          ⊎_elim (λ (q : (c ≡ j) × (h' c ≡ i)). absurd (omega (arith, q.1, z, one))) (λ (q : (c ≡ j → ⊥) × (h' c ≡ h c)). hole.free c cw q.0 (sym q.1 ∙ z)) (at_put h j i c)

      same-seated' : (f : ℕ) → Within s f → (1 ≤ seat₀ f → 1 ≤ seat' f) × (1 ≤ seat' f → 1 ≤ seat₀ f)
      same-seated' f fw = go (at_put seat i j f)
        where
          go : ((f ≡ i) × (seat' f ≡ j)) ⊎ ((f ≡ i → ⊥) × (seat' f ≡ seat f)) → (1 ≤ seat₀ f → 1 ≤ seat' f) × (1 ≤ seat' f → 1 ≤ seat₀ f)
          go (inl q) = ((λ o. omega (arith, q.1, hole.within)), (λ o. omega (arith, ap seat₀ q.0, d-is, dw)))
          go (inr q) = ((λ o. omega (arith, q.1, (hole.same_seated f fw).0 o)), (λ o. (hole.same_seated f fw).1 (omega (arith, q.1, o))))

      step : Hole k g s r seat₀ h₀ a w inside done by rank (put seat (by j) j) (put h j (by j)) d (rank d)
      step = record {
        within = dw;
        seat_within = seat-within';
        holder_within = holder-within';
        seat_holder = seat-holder';
        holder_seat = holder-seat';
        fit = fit';
        free = free';
        next = ways.found d dw dd;
        kept = λ c cw cd lt. (put_there h j (by j) c (hole.kept c cw cd (omega (arith, low))).1 ∙ (hole.kept c cw cd (omega (arith, low))).0, λ q. omega (arith, ap rank q, lt));
        lower = λ f fw fd p. ways.falls d f dw fw dd fd p;
        same_seated = same-seated';
      }

      step-at : Hole k g s r seat₀ h₀ a w inside done by rank (put seat (by j) j) (put h j (by j)) (seat (by j)) (rank (seat (by j))) × (rank (seat (by j)) < b) × Within s (seat (by j))
      step-at = subst (λ (z : ℕ). Hole k g s r seat₀ h₀ a w inside done by rank (put seat (by j) j) (put h j (by j)) z (rank z) × (rank z < b) × Within s z) (sym seat-d) (step, low, dw)

    -- the event that found j is not r: it takes j, and its number stands open now
    pub turn : (by j ≡ r → ⊥) → Hole k g s r seat₀ h₀ a w inside done by rank (put seat (by j) j) (put h j (by j)) (seat (by j)) (rank (seat (by j))) × (rank (seat (by j)) < b) × Within s (seat (by j))
    turn n = let o = ways.holder (by j) hole.next.0 hole.next.1 n in step-at (seat₀ (by j)) o.0 o.1 o.2 refl

    -- it is r: r takes j, and all is in order
    module _ (rfree : seat₀ r ≡ 0) (e : by j ≡ r)
        (under : (i c : ℕ) → Within s i → Joined seat₀ r i → Within s c → (x : C) → g i c ≡ Open x → AtMost k (k.plus (a i) (w c)) x)
        (small_a : (i : ℕ) → Within s i → Joined seat₀ r i → Small k (a i)) (small_w : (c : ℕ) → Within s c → Small k (w c)) where
      abbrev seat'' : ℕ → ℕ
      seat'' = put seat (by j) j

      abbrev h'' : ℕ → ℕ
      h'' = put h j (by j)

      ri : Within s (by j)
      ri = hole.next.0

      free-r : 1 ≤ seat (by j) → ⊥
      free-r o = omega (arith, (hole.same_seated (by j) ri).1 o, ap seat₀ e, rfree)

      joined : (f : ℕ) → Within s f → (Joined seat₀ r f → 1 ≤ seat'' f) × (1 ≤ seat'' f → Joined seat₀ r f)
      joined f fw = go (at_put seat (by j) j f)
        where
          go : ((f ≡ by j) × (seat'' f ≡ j)) ⊎ ((f ≡ by j → ⊥) × (seat'' f ≡ seat f)) → (Joined seat₀ r f → 1 ≤ seat'' f) × (1 ≤ seat'' f → Joined seat₀ r f)
          go (inl q) = ((λ m. omega (arith, q.1, hole.within)), (λ o. inl (q.0 ∙ e)))
          go (inr q) = (
            (λ m. ⊎_elim (λ (z : f ≡ r). absurd (q.0 (z ∙ sym e))) (λ (z : 1 ≤ seat₀ f). omega (arith, q.1, (hole.same_seated f fw).0 z)) m),
            (λ o. inr ((hole.same_seated f fw).1 (omega (arith, q.1, o)))),
          )

      seat-holder'' : (f : ℕ) → Within s f → 1 ≤ seat'' f → h'' (seat'' f) ≡ f
      seat-holder'' f fw o = go (at_put seat (by j) j f)
        where
          go : ((f ≡ by j) × (seat'' f ≡ j)) ⊎ ((f ≡ by j → ⊥) × (seat'' f ≡ seat f)) → h'' (seat'' f) ≡ f
          go (inl q) = ap h'' q.1 ∙ put_here h j (by j) ∙ sym q.0
          go (inr q) = let b = hole.seat_holder f fw (omega (arith, q.1, o)) in ap h'' q.1 ∙ put_there h j (by j) (seat f) b.0 ∙ b.1

      holder-seat'' : (c : ℕ) → Within s c → 1 ≤ h'' c → seat'' (h'' c) ≡ c
      holder-seat'' c cw o = go (at_put h j (by j) c)
        where
          go : ((c ≡ j) × (h'' c ≡ by j)) ⊎ ((c ≡ j → ⊥) × (h'' c ≡ h c)) → seat'' (h'' c) ≡ c
          go (inl q) = ap seat'' q.1 ∙ put_here seat (by j) j ∙ sym q.0
          go (inr q) =
              let back = hole.holder_seat c cw q.0 (omega (arith, q.1, o)) in
              ap seat'' q.1 ∙ put_there seat (by j) j (h c) (λ z. free-r (omega (arith, sym (ap seat z) ∙ back, cw))) ∙ back

      tight'' : (c : ℕ) → Within s c → 1 ≤ h'' c → Fit k g s a w (h'' c) c
      tight'' c cw o = go (at_put h j (by j) c)
        where
          go : ((c ≡ j) × (h'' c ≡ by j)) ⊎ ((c ≡ j → ⊥) × (h'' c ≡ h c)) → Fit k g s a w (h'' c) c
          go (inl q) = subst (λ (z : ℕ). Fit k g s a w z c) (sym q.1) (subst (λ (z : ℕ). Fit k g s a w (by j) z) (sym q.0) hole.next.2)
          go (inr q) = subst (λ (z : ℕ). Fit k g s a w z c) (sym q.1) (hole.fit c cw q.0 (omega (arith, q.1, o)))

      pub last : Seating k g s (put seat (by j) j) (put h j (by j)) a w × SeatsOneMore k g s seat₀ r (put seat (by j) j)
      last = (
        record {
          seat_within = λ f fw. ⊎_elim (λ (q : (f ≡ by j) × (seat'' f ≡ j)). omega (arith, q.1, hole.within)) (λ (q : (f ≡ by j → ⊥) × (seat'' f ≡ seat f)). omega (arith, q.1, hole.seat_within f fw)) (at_put seat (by j) j f);
          holder_within = λ c cw. ⊎_elim (λ (q : (c ≡ j) × (h'' c ≡ by j)). omega (arith, q.1, ri)) (λ (q : (c ≡ j → ⊥) × (h'' c ≡ h c)). omega (arith, q.1, hole.holder_within c cw q.0)) (at_put h j (by j) c);
          seat_holder = seat-holder'';
          holder_seat = holder-seat'';
          under = λ f c fw o cw x g. under f c fw ((joined f fw).1 o) cw x g;
          tight = tight'';
          free = λ c cw z. ⊎_elim (λ (q : (c ≡ j) × (h'' c ≡ by j)). absurd (omega (arith, q.1, z, ri))) (λ (q : (c ≡ j → ⊥) × (h'' c ≡ h c)). hole.free c cw q.0 (sym q.1 ∙ z)) (at_put h j (by j) c);
          small_u = λ f fw o. small_a f fw ((joined f fw).1 o);
          small_v = small_w;
        },
        joined,
      )
