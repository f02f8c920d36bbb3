-- Outcomes as a function of their place: which hits there are, and how many of each sort.
use Rattle.std.proofs.Common.{◌≡◌, ℕ, zero, suc, ◌+◌, ◌-◌, ◌<◌, ◌≤◌, List, [], ◌∷◌, map, length, take, sym, refl, ap, ◌∙◌, subst, inl, inr, ⊎_elim, arith, Some, None, Option}
use Rattle.std.specs.List.{range_with_len}
use Rattle.std.proofs.lemmas.Bool.{cases_eq}
use Rattle.costs.specs.Kind.{Kind}
use Rattle.costs.specs.Lists.{In}
use Rattle.judge.specs.declared.verdict.Verdict.{Verdict}
use Rattle.judge.specs.declared.verdict.Verdict.TheVariants.{Within as Inside, Over, None as Never}
use Rattle.judge.proofs.Listing.{from_map}
use Rattle.watch.specs.Ledger.{Ledger, after_feed}
use Rattle.watch.specs.Walking.{outcome, after_feeds}
use Rattle.watch.proofs.Worked.{all_from}
use Rattle.report.specs.Outcomes.{outcomes_from, add_hit, hits_in, add_count, tally}
use Rattle.report.specs.Windows.{Rising, verdict_tally}

-- the places i, i + 1, .., n of them, with what f says of each
abbrev pub along : {C : Type 0} → (ℕ → Option (Verdict C)) → ℕ → ℕ → List (ℕ × Option (Verdict C))
along f i zero = []
along f i (suc n) = (i, f i) ∷ along f (i + 1) n

pub outcomes_along : {C : Type 0} (k : Kind C) (l : Ledger C) (f : ℕ → Option (Verdict C)) (i : ℕ) (es : List ℕ) → ((j : ℕ) → j < length es → outcome k (after_feeds l (take (suc j) es)) ≡ f (i + j)) → outcomes_from k l i es ≡ along f i (length es)
outcomes_along k l f i [] h = refl
outcomes_along k l f i (e ∷ es) h =
    let at : i + 0 ≡ i = omega arith in
    let first : outcome k (after_feed l e) ≡ f i = h 0 (omega arith) ∙ ap f at in
    let rest = outcomes_along k (after_feed l e) f (i + 1) es (λ j b. let next : i + suc j ≡ i + 1 + j = omega arith in h (suc j) (omega arith) ∙ ap f next) in
    λ z. (i, first z) ∷ rest z

module _ {C : Type 0} (f : ℕ → Option (Verdict C)) where
  later_in : (y : ℕ × C) (i : ℕ) (x : Option (Verdict C)) (rest : List (ℕ × C)) → In y rest → In y (add_hit i x rest)
  later_in y i None rest m = m
  later_in y i (Some (Inside c)) rest m = inr m
  later_in y i (Some (Over c)) rest m = m
  later_in y i (Some Never) rest m = m

  -- each hit is there
  pub in_hits : (i n q : ℕ) (c : C) → i ≤ q → q < i + n → f q ≡ Some (Inside c) → In (q, c) (hits_in (along f i n))
  in_hits i zero q c low high is = absurd (omega arith)
  in_hits i (suc n) q c low high is =
      let rest = hits_in (along f (i + 1) n) in
      ⊎_elim
      (λ (here : q ≡ i). subst (λ (x : Option (Verdict C)). In (q, c) (add_hit i x rest)) (sym (ap f (sym here) ∙ is)) (inl (λ z. (here z, c))))
      (λ (past : q ≡ i → ⊥). later_in (q, c) i (f i) rest (in_hits (i + 1) n q c (omega arith) (omega arith) is))
      (cases_eq q i)

  -- and nothing else
  abbrev pub IsHit : ℕ → ℕ → ℕ × C → Type 0
  IsHit i n y = (i ≤ y.0) × (y.0 < i + n) × (f y.0 ≡ Some (Inside y.1))

  pub from_hits : (i n : ℕ) (y : ℕ × C) → In y (hits_in (along f i n)) → IsHit i n y
  from_hits i zero y h = absurd h
  from_hits i (suc n) y h = go (f i) refl (from_hits (i + 1) n y) h
    where
      wider : IsHit (i + 1) n y → IsHit i (suc n) y
      wider t = (omega (arith, t.0), omega (arith, t.1), t.2)

      go : (x : Option (Verdict C)) → f i ≡ x → (In y (hits_in (along f (i + 1) n)) → IsHit (i + 1) n y) → In y (add_hit i x (hits_in (along f (i + 1) n))) → IsHit i (suc n) y
      go None e rest m = wider (rest m)
      go (Some (Inside c)) e rest (inl same) = subst (IsHit i (suc n)) (sym same) (omega arith, omega arith, e)
      go (Some (Inside c)) e rest (inr m) = wider (rest m)
      go (Some (Over c)) e rest m = wider (rest m)
      go (Some Never) e rest m = wider (rest m)

  -- in order
  module _ (m : ℕ) (late : (q : ℕ) (c : C) → f q ≡ Some (Inside c) → m ≤ q) where
    abbrev pub begin : ℕ × C → ℕ
    begin y = y.0 + 1 - m

    pub hits_rise : (i n : ℕ) → Rising (map begin (hits_in (along f i n)))
    hits_rise i zero = tt
    hits_rise i (suc n) = go (f i) refl (hits_rise (i + 1) n)
      where
        above : m ≤ i → (q : ℕ) → In q (map begin (hits_in (along f (i + 1) n))) → i + 1 - m < q
        above low q h =
            let t = from_map begin q (hits_in (along f (i + 1) n)) h in
            let at = (from_hits (i + 1) n t.0 t.2).0 in
            omega (arith, at, t.1)

        go : (x : Option (Verdict C)) → f i ≡ x → Rising (map begin (hits_in (along f (i + 1) n))) → Rising (map begin (add_hit i x (hits_in (along f (i + 1) n))))
        go None e r = r
        go (Some (Inside c)) e r = (all_from (λ (q : ℕ). i + 1 - m < q) (map begin (hits_in (along f (i + 1) n))) (above (late i c e)), r)
        go (Some (Over c)) e r = r
        go (Some Never) e r = r

  -- places at which no window is full add nothing
  pub tally_skips : (i n a : ℕ) → ((q : ℕ) → i ≤ q → q < i + a → f q ≡ None) → tally (along f i (n + a)) ≡ tally (along f (i + a) n)
  tally_skips i n zero quiet =
      let at : i ≡ i + 0 = omega arith in
      let all : n + 0 ≡ n = omega arith in
      λ z. tally (along f (at z) (all z))
  tally_skips i n (suc a) quiet =
      let at : i + 1 + a ≡ i + suc a = omega arith in
      let all : n + suc a ≡ suc (n + a) = omega arith in
      ap (λ (j : ℕ). tally (along f i j)) all
      ∙ ap (λ (x : Option (Verdict C)). add_count x (tally (along f (i + 1) (n + a)))) (quiet i (omega arith) (omega arith))
      ∙ tally_skips (i + 1) n a (λ q low high. quiet q (omega arith) (omega arith))
      ∙ ap (λ (j : ℕ). tally (along f j n)) at

  pub tally_verdicts : (v : ℕ → Verdict C) (i p n : ℕ) → ((j : ℕ) → j < n → f (i + j) ≡ Some (v (p + j))) → tally (along f i n) ≡ verdict_tally v (range_with_len p n)
  tally_verdicts v i p zero h = refl
  tally_verdicts v i p (suc n) h =
      let at : i ≡ i + 0 = omega arith in
      let of : p + 0 ≡ p = omega arith in
      let first : f i ≡ Some (v p) = ap f at ∙ h 0 (omega arith) ∙ ap (λ (q : ℕ). Some (v q)) of in
      let rest = tally_verdicts v (i + 1) (p + 1) n (λ j b.
      let next : i + 1 + j ≡ i + suc j = omega arith in
      let then : p + suc j ≡ p + 1 + j = omega arith in
      ap f next ∙ h (suc j) (omega arith) ∙ ap (λ (q : ℕ). Some (v q)) then) in
      λ z. add_count (first z) (rest z)

-- all of them are counted
pub counted_all : {C : Type 0} (v : ℕ → Verdict C) (p n : ℕ) → (verdict_tally v (range_with_len p n)).0 + (verdict_tally v (range_with_len p n)).1 + (verdict_tally v (range_with_len p n)).2 ≡ n
counted_all v p zero = omega arith
counted_all {C} v p (suc n) = go (v p) (verdict_tally v (range_with_len (p + 1) n)) (counted_all v (p + 1) n)
  where
    go : (x : Verdict C) (t : ℕ × ℕ × ℕ) → t.0 + t.1 + t.2 ≡ n → (add_count (Some x) t).0 + (add_count (Some x) t).1 + (add_count (Some x) t).2 ≡ suc n
    go (Inside c) t e = omega arith
    go (Over c) t e = omega arith
    go Never t e = omega arith

-- the hits are the ones counted as within
pub counted_hits : {C : Type 0} (xs : List (ℕ × Option (Verdict C))) → (tally xs).0 ≡ length (hits_in xs)
counted_hits [] = refl
counted_hits {C} (x ∷ xs) = go x.1 (tally xs) (hits_in xs) (counted_hits xs)
  where
    go : (y : Option (Verdict C)) (t : ℕ × ℕ × ℕ) (hits : List (ℕ × C)) → t.0 ≡ length hits → (add_count y t).0 ≡ length (add_hit x.0 y hits)
    go None t hits e = e
    go (Some (Inside c)) t hits e = omega arith
    go (Some (Over c)) t hits e = e
    go (Some Never) t hits e = e
