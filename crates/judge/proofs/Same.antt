-- The same seating, search and turning by functions that agree on 1 to s.
use Rattle.std.proofs.Common.{◌≡◌, ℕ, ◌≤◌, Bool, true, List, Some, Option, sym, ap, ◌∙◌, subst, arith}
use Rattle.costs.specs.Kind.{Kind, AtMost}
use Rattle.tables.specs.Table.{Within}
use Rattle.tables.specs.declared.grade.Grade.{Grade}
use Rattle.tables.specs.declared.grade.Grade.TheVariants.{Open}
use Rattle.judge.specs.Seating.{Small, Fit, Seating}
use Rattle.judge.specs.Tree.{Tree, Trail, Going}
use Rattle.judge.specs.Turning.{Turning}
use Rattle.judge.specs.Rows.{Agree}
use Rattle.judge.proofs.Listing.{all_in}

module _ {C : Type 0} (k : Kind C) (g : ℕ → ℕ → Grade C) (s : ℕ) where
  fit_same : (u v u₂ v₂ : ℕ → C) → Agree s u₂ u → Agree s v₂ v → (i c : ℕ) → Within s i → Within s c → Fit k g s u v i c → Fit k g s u₂ v₂ i c
  fit_same u v u₂ v₂ p q i c iw cw f = (f.0, f.1, ap (λ z. k.plus z (v₂ c)) (p i iw) ∙ ap (k.plus (u i)) (q c cw) ∙ f.2)

  pub seating_same : (seat seat₂ h h₂ : ℕ → ℕ) (u u₂ v v₂ : ℕ → C) → Agree s seat₂ seat → Agree s h₂ h → Agree s u₂ u → Agree s v₂ v → Seating k g s seat h u v → Seating k g s seat₂ h₂ u₂ v₂
  seating_same seat seat₂ h h₂ u u₂ v v₂ ps ph pu pv x = record {
    seat_within = λ i w. omega (arith, ps i w, x.seat_within i w);
    holder_within = λ c w. omega (arith, ph c w, x.holder_within c w);
    seat_holder = λ i w o. (let o' : 1 ≤ seat i = omega (arith, ps i w, o) in ap h₂ (ps i w) ∙ ph (seat i) (o', x.seat_within i w) ∙ x.seat_holder i w o');
    holder_seat = λ c w o. (let o' : 1 ≤ h c = omega (arith, ph c w, o) in ap seat₂ (ph c w) ∙ ps (h c) (o', x.holder_within c w) ∙ x.holder_seat c w o');
    under = λ i c iw o cw y e.
        subst (λ z. AtMost k (k.plus z (v₂ c)) y) (sym (pu i iw)) (subst (λ z. AtMost k (k.plus (u i) z) y) (sym (pv c cw)) (x.under i c iw (omega (arith, ps i iw, o)) cw y e));
    tight = λ c w o.
        (let o' : 1 ≤ h c = omega (arith, ph c w, o) in
        subst (λ (z : ℕ). Fit k g s u₂ v₂ z c) (sym (ph c w)) (fit_same u v u₂ v₂ pu pv (h c) c (o', x.holder_within c w) w (x.tight c w o')));
    free = λ c w z. pv c w ∙ x.free c w (sym (ph c w) ∙ z);
    small_u = λ i w o. subst (Small k) (sym (pu i w)) (x.small_u i w (omega (arith, ps i w, o)));
    small_v = λ c w. subst (Small k) (sym (pv c w)) (x.small_v c w);
  }

  module _ (t r : ℕ) (seat h : ℕ → ℕ) (v : ℕ → C) (done done₂ : ℕ → Bool) (path path₂ : ℕ → Option C) (d : Agree s done₂ done) (p : Agree s path₂ path) where
    tree-same : (inside : ℕ → Bool) (lead : ℕ → C) → Tree k g s t r h v inside done path lead → Tree k g s t r h v inside done₂ path₂ lead
    tree-same inside lead tree = record {
      root = tree.root;
      done_held = λ c w e. (let x = tree.done_held c w (sym (d c w) ∙ e) in (x.0, x.1, x.2, p c w ∙ x.3, x.4, x.5, x.6));
      inside_done = λ c w o e. d c w ∙ tree.inside_done c w o e;
      reach = λ i c iw e w x o. (let b = tree.reach i c iw e w x o in (b.0, p c w ∙ b.1, b.2));
      order = λ c e cw ew a b q m x y. tree.order c e cw ew (sym (d c cw) ∙ a) (sym (d e ew) ∙ b) q m (sym (p c cw) ∙ x) (sym (p e ew) ∙ y);
      small_path = λ c w q e. tree.small_path c w q (sym (p c w) ∙ e);
      small_lead = tree.small_lead;
    }

    -- who found a path needs to agree only where there is one
    module _ (by by₂ : ℕ → ℕ) (b : (c : ℕ) → Within s c → (q : C) → path c ≡ Some q → by₂ c ≡ by c) where
      trail-same : (inside : ℕ → Bool) (lead : ℕ → C) (rank : ℕ → ℕ) (seen : List ℕ) → Tree k g s t r h v inside done path lead → Trail k g s t r seat h inside done path lead by rank seen → Trail k g s t r seat h inside done₂ path₂ lead by₂ rank seen
      trail-same inside lead rank seen tree trail = record {
        by_in = λ c w q e. subst (λ (i : ℕ). Within s i × (inside i ≡ true) × (x : C) × (g i c ≡ Open x) × (q ≡ k.plus (lead i) x)) (sym (b c w q (sym (p c w) ∙ e))) (trail.by_in c w q (sym (p c w) ∙ e));
        falls = λ c e cw ew x y z.
            (let m = tree.done_held c cw (sym (d c cw) ∙ x) in trail.falls c e cw ew (sym (d c cw) ∙ x) (sym (d e ew) ∙ y) (z ∙ b c cw m.2 m.3));
        ranked = λ c w e. trail.ranked c w (sym (d c w) ∙ e);
        upto = trail.upto;
        many = trail.many;
        apart = trail.apart;
        all_within = trail.all_within;
        seen_done = λ c m. d c (all_in (Within s) seen trail.all_within c m) ∙ trail.seen_done c m;
      }

      -- the search, by other lists of what it keeps
      pub going_same : Going k g s t r seat h v done path by → Going k g s t r seat h v done₂ path₂ by₂
      going_same go = record {
        u = go.u;
        inside = go.inside;
        lead = go.lead;
        rank = go.rank;
        seen = go.seen;
        within = go.within;
        unseated = go.unseated;
        seating = go.seating;
        tree = tree-same go.inside go.lead go.tree;
        trail = trail-same go.inside go.lead go.rank go.seen go.tree go.trail;
      }

  -- the turning, by other seats, holders and prices
  module _ (b r : ℕ) (seat₀ seat seat₂ h h₂ : ℕ → ℕ) (w w₂ : ℕ → C) (by : ℕ → ℕ) (j : ℕ) (ps : Agree s seat₂ seat) (ph : Agree s h₂ h) (pw : Agree s w₂ w) where
    refit : (a : ℕ → C) (i c : ℕ) → Within s c → Fit k g s a w i c → Fit k g s a w₂ i c
    refit a i c cw f = (f.0, f.1, ap (k.plus (a i)) (pw c cw) ∙ f.2)

    pub turning_same : Turning k g s b r seat₀ seat h w by j → Turning k g s b r seat₀ seat₂ h₂ w₂ by j
    turning_same x = record {
      h₀ = x.h₀;
      a = x.a;
      inside = x.inside;
      done = x.done;
      rank = x.rank;
      ways = record {
        found = λ c cw cd. (let f = x.ways.found c cw cd in (f.0, f.1, refit x.a (by c) c cw f.2));
        falls = x.ways.falls;
        holder = x.ways.holder;
      };
      hole = record {
        within = x.hole.within;
        seat_within = λ i iw. omega (arith, ps i iw, x.hole.seat_within i iw);
        holder_within = λ c cw n. omega (arith, ph c cw, x.hole.holder_within c cw n);
        seat_holder = λ i iw o.
            (let o' : 1 ≤ seat i = omega (arith, ps i iw, o) in
            let m = x.hole.seat_holder i iw o' in
            ((λ z. m.0 (sym (ps i iw) ∙ z)), ap h₂ (ps i iw) ∙ ph (seat i) (o', x.hole.seat_within i iw) ∙ m.1));
        holder_seat = λ c cw n o.
            (let o' : 1 ≤ h c = omega (arith, ph c cw, o) in
            ap seat₂ (ph c cw) ∙ ps (h c) (o', x.hole.holder_within c cw n) ∙ x.hole.holder_seat c cw n o');
        fit = λ c cw n o. subst (λ (z : ℕ). Fit k g s x.a w₂ z c) (sym (ph c cw)) (refit x.a (h c) c cw (x.hole.fit c cw n (omega (arith, ph c cw, o))));
        free = λ c cw n z. pw c cw ∙ x.hole.free c cw n (sym (ph c cw) ∙ z);
        next = (x.hole.next.0, x.hole.next.1, refit x.a (by j) j x.hole.within x.hole.next.2);
        kept = λ c cw cd lt. (let m = x.hole.kept c cw cd lt in (ph c cw ∙ m.0, m.1));
        lower = x.hole.lower;
        same_seated = λ i iw. ((λ o. omega (arith, ps i iw, (x.hole.same_seated i iw).0 o)), (λ o. (x.hole.same_seated i iw).1 (omega (arith, ps i iw, o))));
      };
      unseated = x.unseated;
      under = λ i c iw m cw y e. subst (λ z. AtMost k (k.plus (x.a i) z) y) (sym (pw c cw)) (x.under i c iw m cw y e);
      small_a = x.small_a;
      small_w = λ c cw. subst (Small k) (sym (pw c cw)) (x.small_w c cw);
    }
