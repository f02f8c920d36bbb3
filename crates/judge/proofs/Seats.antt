-- Seatings: what follows at once, the one with nobody seated, and a free number taken without a search.
use Rattle.std.proofs.Common.{◌≡◌, ℕ, ◌≤◌, ◌⊎◌, sym, refl, ap, ◌∙◌, subst, inl, inr, ⊎_elim, arith}
use Rattle.costs.specs.Kind.{Kind, Laws, AtMost}
use Rattle.tables.specs.Table.{Within}
use Rattle.tables.specs.declared.grade.Grade.{Grade}
use Rattle.tables.specs.declared.grade.Grade.TheVariants.{Open}
use Rattle.judge.specs.Prices.{Bounded}
use Rattle.judge.specs.Seating.{Small, put, Fit, Seating, SeatsOneMore}
use Rattle.judge.proofs.Cells.{price_back, seat_under}
use Rattle.judge.proofs.Puts.{put_here, put_there, at_put}

module _ {C : Type 0} (k : Kind C) (g : ℕ → ℕ → Grade C) (s : ℕ) (seat h : ℕ → ℕ) (u v : ℕ → C) (seating : Seating k g s seat h u v) where
  -- the holder of a number is seated
  pub seated : (c : ℕ) → Within s c → 1 ≤ h c → 1 ≤ seat (h c)
  seated c cw o = omega (arith, seating.holder_seat c cw o, cw)

  -- no event holds two numbers
  pub once : (c d : ℕ) → Within s c → Within s d → 1 ≤ h c → h c ≡ h d → c ≡ d
  once c d cw dw o e = sym (seating.holder_seat c cw o) ∙ ap seat e ∙ seating.holder_seat d dw (omega (arith, o, e))

  -- an event with no number holds none
  pub fresh : (r : ℕ) → Within s r → seat r ≡ 0 → (c : ℕ) → Within s c → h c ≡ r → ⊥
  fresh r ri z c cw e = let o : 1 ≤ h c = omega (arith, ri) in omega (arith, ap seat e, seating.holder_seat c cw o, z, cw)

  -- the price of a seated event, by the cost of its pair
  pub event_price : (laws : Laws k) → Bounded k g s → (c : ℕ) → Within s c → 1 ≤ h c → (x : C) → g (h c) c ≡ Open x → u (h c) ≡ k.minus x (v c)
  event_price laws bounded c cw o x e =
      let hw : Within s (h c) = (o, seating.holder_within c cw) in
      let t = seating.tight c cw o in
      let same : t.0 ≡ x = cc (t.1, e) in
      price_back k laws (u (h c)) (v c) x (seating.small_u (h c) hw (seated c cw o)) (seating.small_v c cw) (omega (arith, bounded (h c) c hw cw x e)) (t.2 ∙ same)

  -- all are seated: their prices can be told from the costs and the prices of numbers
  pub event_prices : (laws : Laws k) → Bounded k g s → ((i : ℕ) → Within s i → 1 ≤ seat i) → (u₂ : ℕ → C) → ((i : ℕ) → Within s i → (x : C) → g i (seat i) ≡ Open x → u₂ i ≡ k.minus x (v (seat i))) → (i : ℕ) → Within s i → u₂ i ≡ u i
  event_prices laws bounded all u₂ told i iw =
      let cw : Within s (seat i) = (all i iw, seating.seat_within i iw) in
      let back = seating.seat_holder i iw (all i iw) in
      let o : 1 ≤ h (seat i) = omega (arith, back, iw) in
      let t = seating.tight (seat i) cw o in
      told i iw t.0 (ap (λ (z : ℕ). g z (seat i)) (sym back) ∙ t.1) ∙ sym (event_price laws bounded (seat i) cw o t.0 t.1) ∙ ap u back

module _ {C : Type 0} (k : Kind C) (laws : Laws k) (g : ℕ → ℕ → Grade C) (s : ℕ) where
  pub nobody : (u : ℕ → C) → Seating k g s (λ i. 0) (λ c. 0) u (λ c. k.zero)
  nobody u = record {
    seat_within = λ i w. omega arith;
    holder_within = λ c w. omega arith;
    seat_holder = λ i w o. absurd (omega arith);
    holder_seat = λ c w o. absurd (omega arith);
    under = λ i c w o cw x e. absurd (omega arith);
    tight = λ c w o. absurd (omega arith);
    free = λ c w z. refl;
    small_u = λ i w o. absurd (omega arith);
    small_v = λ c w. omega (arith, laws.zero_span);
  }

  -- event r takes the free number c, of the least key among its open numbers
  module _ (bounded : Bounded k g s) (seat h : ℕ → ℕ) (u v : ℕ → C) (seating : Seating k g s seat h u v) (r : ℕ) (ri : Within s r) (rfree : seat r ≡ 0)
      (c : ℕ) (cw : Within s c) (cfree : h c ≡ 0) (x : C) (rc : g r c ≡ Open x)
      (nearest : (d : ℕ) → Within s d → (y : C) → g r d ≡ Open y → AtMost k x (k.minus y (v d))) where
    abbrev seat' : ℕ → ℕ
    seat' = put seat r c

    abbrev h' : ℕ → ℕ
    h' = put h c r

    abbrev u' : ℕ → C
    u' = put u r x

    sx : Small k x
    sx = omega (arith, bounded r c ri cw x rc)

    -- a seated event does not have c
    away : (i : ℕ) → Within s i → 1 ≤ seat i → seat i ≡ c → ⊥
    away i iw o e = omega (arith, iw, ap h e, seating.seat_holder i iw o, cfree)

    seat-holder' : (i : ℕ) → Within s i → 1 ≤ seat' i → h' (seat' i) ≡ i
    seat-holder' i iw o = go (at_put seat r c i)
      where
        go : ((i ≡ r) × (seat' i ≡ c)) ⊎ ((i ≡ r → ⊥) × (seat' i ≡ seat i)) → h' (seat' i) ≡ i
        go (inl q) = ap h' q.1 ∙ put_here h c r ∙ sym q.0
        go (inr q) =
            let o' : 1 ≤ seat i = omega (arith, q.1, o) in
            ap h' q.1 ∙ put_there h c r (seat i) (away i iw o') ∙ seating.seat_holder i iw o'

    holder-seat' : (d : ℕ) → Within s d → 1 ≤ h' d → seat' (h' d) ≡ d
    holder-seat' d dw o = go (at_put h c r d)
      where
        go : ((d ≡ c) × (h' d ≡ r)) ⊎ ((d ≡ c → ⊥) × (h' d ≡ h d)) → seat' (h' d) ≡ d
        go (inl q) = ap seat' q.1 ∙ put_here seat r c ∙ sym q.0
        go (inr q) = ap seat' q.1 ∙ put_there seat r c (h d) (fresh k g s seat h u v seating r ri rfree d dw) ∙ seating.holder_seat d dw (omega (arith, q.1, o))

    under' : (i d : ℕ) → Within s i → 1 ≤ seat' i → Within s d → (y : C) → g i d ≡ Open y → AtMost k (k.plus (u' i) (v d)) y
    under' i d iw o dw y e = go (at_put u r x i)
      where
        go : ((i ≡ r) × (u' i ≡ x)) ⊎ ((i ≡ r → ⊥) × (u' i ≡ u i)) → AtMost k (k.plus (u' i) (v d)) y
        go (inl q) =
            let e' : g r d ≡ Open y = ap (λ (z : ℕ). g z d) (sym q.0) ∙ e in
            subst (λ z. AtMost k (k.plus z (v d)) y) (sym q.1) (seat_under k laws x y (v d) sx (omega (arith, bounded i d iw dw y e)) (seating.small_v d dw) (nearest d dw y e'))
        go (inr q) = subst (λ z. AtMost k (k.plus z (v d)) y) (sym q.1) (seating.under i d iw (omega (arith, put_there seat r c i q.0, o)) dw y e)

    tight' : (d : ℕ) → Within s d → 1 ≤ h' d → Fit k g s u' v (h' d) d
    tight' d dw o = go (at_put h c r d)
      where
        go : ((d ≡ c) × (h' d ≡ r)) ⊎ ((d ≡ c → ⊥) × (h' d ≡ h d)) → Fit k g s u' v (h' d) d
        go (inl q) =
            subst (λ (i : ℕ). Fit k g s u' v i d) (sym q.1) (subst (λ (n : ℕ). Fit k g s u' v r n) (sym q.0)
            (x, rc, ap (λ z. k.plus z (v c)) (put_here u r x) ∙ ap (k.plus x) (seating.free c cw cfree) ∙ laws.plus_zero x (omega (arith, laws.zero_span, sx))))
        go (inr q) =
            let t = seating.tight d dw (omega (arith, q.1, o)) in
            subst (λ (i : ℕ). Fit k g s u' v i d) (sym q.1) (t.0, t.1, ap (λ z. k.plus z (v d)) (put_there u r x (h d) (fresh k g s seat h u v seating r ri rfree d dw)) ∙ t.2)

    pub seat_free : Seating k g s (put seat r c) (put h c r) (put u r x) v × SeatsOneMore k g s seat r (put seat r c)
    seat_free = (
      record {
        seat_within = λ i w. ⊎_elim (λ (q : (i ≡ r) × (seat' i ≡ c)). omega (arith, q.1, cw)) (λ (q : (i ≡ r → ⊥) × (seat' i ≡ seat i)). omega (arith, q.1, seating.seat_within i w)) (at_put seat r c i);
        holder_within = λ d w. ⊎_elim (λ (q : (d ≡ c) × (h' d ≡ r)). omega (arith, q.1, ri)) (λ (q : (d ≡ c → ⊥) × (h' d ≡ h d)). omega (arith, q.1, seating.holder_within d w)) (at_put h c r d);
        seat_holder = seat-holder';
        holder_seat = holder-seat';
        under = under';
        tight = tight';
        free = λ d w z. ⊎_elim (λ (q : (d ≡ c) × (h' d ≡ r)). absurd (omega (arith, q.1, z, ri))) (λ (q : (d ≡ c → ⊥) × (h' d ≡ h d)). seating.free d w (sym q.1 ∙ z)) (at_put h c r d);
        small_u = λ i w o. ⊎_elim (λ (q : (i ≡ r) × (u' i ≡ x)). subst (Small k) (sym q.1) sx) (λ (q : (i ≡ r → ⊥) × (u' i ≡ u i)). subst (Small k) (sym q.1) (seating.small_u i w (omega (arith, put_there seat r c i q.0, o)))) (at_put u r x i);
        small_v = seating.small_v;
      },
      λ i w. (
        (λ m. ⊎_elim (λ (q : (i ≡ r) × (seat' i ≡ c)). omega (arith, q.1, cw)) (λ (q : (i ≡ r → ⊥) × (seat' i ≡ seat i)). ⊎_elim (λ (z : i ≡ r). absurd (q.0 z)) (λ (z : 1 ≤ seat i). omega (arith, q.1, z)) m) (at_put seat r c i)),
        (λ o. ⊎_elim (λ (q : (i ≡ r) × (seat' i ≡ c)). inl q.0) (λ (q : (i ≡ r → ⊥) × (seat' i ≡ seat i)). inr (omega (arith, q.1, o))) (at_put seat r c i)),
      ),
    )
