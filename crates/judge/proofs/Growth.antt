-- One event more: either the search gets stuck, or the event is seated too. So all events are seated, or some are too many.
use Rattle.std.proofs.Common.{◌≡◌, ℕ, zero, suc, ◌+◌, ◌<◌, ◌≤◌, Bool, true, false, ◌⊎◌, List, [], ◌∷◌, Some, None, Option, sym, refl, ap, ◌∙◌, subst, inl, inr, ⊎_elim, arith}
use Rattle.std.proofs.lemmas.Bool.{both_ways, cases_eq}
use Rattle.costs.specs.Kind.{Kind, Laws, AtMost}
use Rattle.costs.specs.Lists.{In}
use Rattle.tables.specs.Table.{Within}
use Rattle.tables.specs.declared.grade.Grade.{Grade}
use Rattle.judge.specs.Renumbering.{up_to}
use Rattle.judge.specs.Prices.{Bounded}
use Rattle.judge.specs.Marks.{Violator}
use Rattle.judge.specs.Seating.{put, Seating, SeatsOneMore}
use Rattle.judge.specs.Search.{reached, repriced}
use Rattle.judge.specs.Tree.{Going}
use Rattle.judge.specs.Turning.{Turning}
use Rattle.costs.proofs.Sums.{at_most_itself}
use Rattle.judge.proofs.Pairs.{in_counting}
use Rattle.judge.proofs.Listing.{from_counting}
use Rattle.judge.proofs.Puts.{none_some}
use Rattle.judge.proofs.Marking.{marks_of, marks_are}
use Rattle.judge.proofs.Seats.{nobody}
use Rattle.judge.proofs.Goings.{begins, fewer_done, held_open, goes_on, stuck, ends}
use Rattle.judge.proofs.Turnings.{turns, ends_seated}

module _ {C : Type 0} (k : Kind C) (laws : Laws k) (v : ℕ → C) (done : ℕ → Bool) (path : ℕ → Option C) where
  -- each number of the list is done or has no path
  abbrev pub NoneLeft : List ℕ → Type 0
  NoneLeft xs = (d : ℕ) → In d xs → done d ≡ false → (q : C) → path d ≡ Some q → ⊥

  -- one of the list is the nearest
  abbrev pub BestOf : List ℕ → Type 0
  BestOf xs = (j : ℕ) × In j xs × (done j ≡ false) × (p : C) × (path j ≡ Some p) × ((d : ℕ) → In d xs → done d ≡ false → (q : C) → path d ≡ Some q → AtMost k (k.minus p (v j)) (k.minus q (v d)))

  -- x does not count
  skip : (x : ℕ) (xs : List ℕ) → (done x ≡ false → (q : C) → path x ≡ Some q → ⊥) → NoneLeft xs ⊎ BestOf xs → NoneLeft (x ∷ xs) ⊎ BestOf (x ∷ xs)
  skip x xs no-x (inl f) = inl (λ d m e q r. ⊎_elim (λ (z : d ≡ x). no-x (ap done (sym z) ∙ e) q (ap path (sym z) ∙ r)) (λ (z : In d xs). f d z e q r) m)
  skip x xs no-x (inr b) = inr (b.0, inr b.1, b.2, b.3, b.4, λ d m e q r. ⊎_elim (λ (z : d ≡ x). absurd (no-x (ap done (sym z) ∙ e) q (ap path (sym z) ∙ r))) (λ (z : In d xs). b.5 d z e q r) m)

  weigh : (x : ℕ) (xs : List ℕ) (p : C) → done x ≡ false → path x ≡ Some p → NoneLeft xs ⊎ BestOf xs → NoneLeft (x ∷ xs) ⊎ BestOf (x ∷ xs)
  weigh x xs p e f (inl no-xs) = inr (x, inl refl, e, p, f, λ d m a q r. ⊎_elim (λ (z : d ≡ x). here d q z r) (λ (z : In d xs). absurd (no-xs d z a q r)) m)
    where
      here : (d : ℕ) (q : C) → d ≡ x → path d ≡ Some q → AtMost k (k.minus p (v x)) (k.minus q (v d))
      here d q z r =
          let same : p ≡ q = let w : path x ≡ Some q = ap path (sym z) ∙ r in cc in
          subst (λ (i : ℕ). AtMost k (k.minus p (v x)) (k.minus q (v i))) (sym z) (subst (λ y. AtMost k (k.minus p (v x)) (k.minus y (v x))) same (at_most_itself k laws (k.minus p (v x))))
  weigh x xs p e f (inr b) = compare (laws.order_total (k.minus p (v x)) (k.minus b.3 (v b.0)))
    where
      here : (a : C) → AtMost k a (k.minus p (v x)) → (d : ℕ) (q : C) → d ≡ x → path d ≡ Some q → AtMost k a (k.minus q (v d))
      here a le d q z r =
          let same : p ≡ q = let w : path x ≡ Some q = ap path (sym z) ∙ r in cc in
          subst (λ (i : ℕ). AtMost k a (k.minus q (v i))) (sym z) (subst (λ y. AtMost k a (k.minus y (v x))) same le)

      compare : (AtMost k (k.minus p (v x)) (k.minus b.3 (v b.0))) ⊎ (AtMost k (k.minus b.3 (v b.0)) (k.minus p (v x))) → NoneLeft (x ∷ xs) ⊎ BestOf (x ∷ xs)
      compare (inl le) =
          inr (
            x,
            inl refl,
            e,
            p,
            f,
            λ d m a q r. ⊎_elim (λ (z : d ≡ x). here (k.minus p (v x)) (at_most_itself k laws (k.minus p (v x))) d q z r)
                (λ (z : In d xs). laws.order_trans (k.minus p (v x)) (k.minus b.3 (v b.0)) (k.minus q (v d)) le (b.5 d z a q r)) m,
          )
      compare (inr le) =
          inr (b.0, inr b.1, b.2, b.3, b.4, λ d m a q r. ⊎_elim (λ (z : d ≡ x). here (k.minus b.3 (v b.0)) le d q z r) (λ (z : In d xs). b.5 d z a q r) m)

  pub choose : (xs : List ℕ) → NoneLeft xs ⊎ BestOf xs
  choose [] = inl (λ d m. absurd m)
  choose (x ∷ xs) = go (done x) refl (path x) refl (choose xs)
    where
      go : (b : Bool) → done x ≡ b → (o : Option C) → path x ≡ o → NoneLeft xs ⊎ BestOf xs → NoneLeft (x ∷ xs) ⊎ BestOf (x ∷ xs)
      go true e o f r = skip x xs (λ a q z. both_ways (done x) a e) r
      go false e None f r = skip x xs (λ a q z. none_some q (sym f ∙ z)) r
      go false e (Some p) f r = weigh x xs p e f r

module _ {C : Type 0} (k : Kind C) (laws : Laws k) (g : ℕ → ℕ → Grade C) (s : ℕ) (size : s ≤ 64) (bounded : Bounded k g s) where
  -- some marked events are too many
  abbrev pub TooMany : Type 0
  TooMany = (marks : List ℕ) × Violator g s marks

  -- the events that seat₀ seats, and r, are seated
  abbrev pub Grown : (ℕ → ℕ) → ℕ → Type 0
  Grown seat₀ r = (seat : ℕ → ℕ) × (h : ℕ → ℕ) × (u : ℕ → C) × (v : ℕ → C) × Seating k g s seat h u v × SeatsOneMore k g s seat₀ r seat

  module _ (r : ℕ) (seat₀ : ℕ → ℕ) (w : ℕ → C) (by : ℕ → ℕ) where
    one_turn : (b : ℕ) (seat h : ℕ → ℕ) (j : ℕ) → Turning k g s b r seat₀ seat h w by j → ((b' : ℕ) → b' < b → Turning k g s b' r seat₀ (put seat (by j) j) (put h j (by j)) w by (seat (by j)) → Grown seat₀ r) → Grown seat₀ r
    one_turn b seat h j x rec = go (cases_eq (by j) r)
      where
        go : (by j ≡ r) ⊎ (by j ≡ r → ⊥) → Grown seat₀ r
        go (inl e) = let o = ends_seated k g s b r seat₀ seat h w by j x e in (put seat (by j) j, put h j (by j), o.0, w, o.1, o.2)
        go (inr n) = let o = turns k g s b r seat₀ seat h w by j x n in rec o.1 o.2 o.3

    pub turn_over : (f b : ℕ) (seat h : ℕ → ℕ) (j : ℕ) → b ≤ f → Turning k g s b r seat₀ seat h w by j → Grown seat₀ r
    turn_over zero b seat h j le x = one_turn b seat h j x (λ b' lt y. absurd (omega arith))
    turn_over (suc f) b seat h j le x = one_turn b seat h j x (λ b' lt y. turn_over f b' (put seat (by j) j) (put h j (by j)) (seat (by j)) (omega arith) y)

  module _ (r : ℕ) (seat h : ℕ → ℕ) (v : ℕ → C) where
    abbrev GoesOn : ℕ → Type 0
    GoesOn t = (done : ℕ → Bool) (path : ℕ → Option C) (by : ℕ → ℕ) → Going k g s t r seat h v done path by → TooMany ⊎ Grown seat r

    one-scan : (t : ℕ) → GoesOn (suc t) → GoesOn t
    one-scan t rec done path by go = found (choose k laws v done path (up_to s))
      where
        found_in : (d : ℕ) → Within s d → In d (up_to s)
        found_in d w = in_counting 1 s d w.0 (omega (arith, w.1))

        with-j : (b : BestOf k laws v done path (up_to s)) → Within s b.0 → (h b.0 ≡ 0) ⊎ (h b.0 ≡ 0 → ⊥) → TooMany ⊎ Grown seat r
        with-j b jw (inl z) =
            inr (turn_over r seat (repriced k done path b.3 v) by t t seat h b.0 (omega arith)
            (ends k laws g s bounded t r seat h v done path by go size b.0 jw z b.3 (b.2, b.4, λ d dw dd q e. b.5 d (found_in d dw) dd q e)))
        with-j b jw (inr z) =
            let y = held_open k laws g s bounded t r seat h v done path by go b.0 jw (omega arith) in
            rec _ _ _ (goes_on k laws g s bounded t r seat h v done path by go size b.0 jw (omega arith) b.3 (b.2, b.4, λ d dw dd q e. b.5 d (found_in d dw) dd q e) y.0 y.1)

        found : NoneLeft k laws v done path (up_to s) ⊎ BestOf k laws v done path (up_to s) → TooMany ⊎ Grown seat r
        found (inl f) =
            inl (marks_of (reached r seat done) s, stuck k laws g s bounded t r seat h v done path by go (λ d dw e p q. f d (found_in d dw) e p q) (marks_of (reached r seat done) s) (marks_are (reached r seat done) s))
        found (inr b) = let w = from_counting 1 s b.0 b.1 in with-j b (w.0, omega arith) (cases_eq (h b.0) 0)

    search-on : (f t : ℕ) → f + t ≡ suc s → GoesOn t
    search-on zero t e done path by go = absurd (omega (arith, fewer_done k laws g s bounded t r seat h v done path by go))
    search-on (suc f) t e done path by go = one-scan t (search-on f (suc t) (omega arith)) done path by go

    -- one event more
    pub seats_one : Within s r → seat r ≡ 0 → (u : ℕ → C) → Seating k g s seat h u v → TooMany ⊎ Grown seat r
    seats_one ri z u seating = search-on (suc s) 0 (omega arith) _ _ _ (begins k laws g s bounded r ri seat h u v seating z)

  -- events 1 to n are seated
  abbrev pub SeatedTo : ℕ → Type 0
  SeatedTo n = (seat : ℕ → ℕ) × (h : ℕ → ℕ) × (u : ℕ → C) × (v : ℕ → C) × Seating k g s seat h u v × ((i : ℕ) → Within n i → 1 ≤ seat i)

  pub all_seated : (n : ℕ) → n ≤ s → TooMany ⊎ SeatedTo n
  all_seated zero le = inr ((λ i. 0), (λ c. 0), (λ i. k.zero), (λ c. k.zero), nobody k laws g s (λ i. k.zero), λ i w. absurd (omega (arith, w)))
  all_seated (suc n) le = next (all_seated n (omega arith))
    where
      next : TooMany ⊎ SeatedTo n → TooMany ⊎ SeatedTo (suc n)
      next (inl x) = inl x
      next (inr x) = this (cases_eq (x.0 (suc n)) 0)
        where
          upto : (seat : ℕ → ℕ) → ((i : ℕ) → Within n i → 1 ≤ seat i) → 1 ≤ seat (suc n) → (i : ℕ) → Within (suc n) i → 1 ≤ seat i
          upto seat f o i w = ⊎_elim (λ (q : i ≡ suc n). subst (λ (z : ℕ). 1 ≤ seat z) (sym q) o) (λ (q : i ≡ suc n → ⊥). f i (w.0, omega (arith, w.1))) (cases_eq i (suc n))

          grown : TooMany ⊎ Grown x.0 (suc n) → TooMany ⊎ SeatedTo (suc n)
          grown (inl y) = inl y
          grown (inr y) =
              inr (y.0, y.1, y.2, y.3, y.4, upto y.0 (λ i w. (y.5 i (omega (arith, w))).0 (inr (x.5 i w))) ((y.5 (suc n) (omega arith)).0 (inl refl)))

          this : (x.0 (suc n) ≡ 0) ⊎ (x.0 (suc n) ≡ 0 → ⊥) → TooMany ⊎ SeatedTo (suc n)
          this (inl z) = grown (seats_one (suc n) x.0 x.1 x.3 (omega arith) z x.2 x.4)
          this (inr z) = inr (x.0, x.1, x.2, x.3, x.4, upto x.0 x.5 (omega arith))
