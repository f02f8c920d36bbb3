-- The grade of a pair as a sum over the places of a window.
use Rattle.std.specs.Prelude.{◌≡◌, ℕ, suc, ◌+◌, ◌*◌, ◌<◌, ◌≤◌, Bool, true, false, cond, List, [], ◌∷◌, length, drop, ◌==◌, ◌≢◌, slice_index, slice_index_or}
use Rattle.std.proofs.Common.{◌∙◌, ap, arith}
use Rattle.std.specs.List.{AllByRecursion}
use Rattle.std.proofs.lemmas.List.{drop_more}
use Rattle.std.proofs.lemmas.Bool.{eq-eqb, ne_eqb, cond-true, cond-false}
use Rattle.costs.specs.Kind.{Kind, Laws, limit}
use Rattle.tables.specs.Limits.{max_size, max_places}
use Rattle.tables.specs.Summing.{add_grade, graded}
use Rattle.tables.specs.Table.{Spans}
use Rattle.tables.specs.declared.grade.Grade.{Grade}
use Rattle.tables.specs.declared.grade.Grade.TheVariants.{Closed, Open}

-- spans: a window of n places whose prices have a span of at most m
module _ {C : Type 0} (k : Kind C) (laws : Laws k) where
  pub widen : (a b : ℕ) (g : Grade C) → a ≤ b → Spans k a g → Spans k b g
  widen a b Closed h s = tt
  widen a b (Open c) h s = omega arith

  add_span : (a b : ℕ) (g h : Grade C) → a + b ≤ limit → Spans k a g → Spans k b h → Spans k (a + b) (add_grade k g h)
  add_span a b Closed h f s t = tt
  add_span a b (Open x) Closed f s t = tt
  add_span a b (Open x) (Open y) f s t = let p = laws.plus_span x y (omega arith) in omega arith

  place_span : (n : ℕ) (g h : Grade C) (b : Bool) → n ≤ max_places → Spans k max_size g → Spans k (max_size * n) h → Spans k (max_size * suc n) (cond b (add_grade k g h) h)
  place_span n g h true f s t = widen (max_size + max_size * n) (max_size * suc n) _ (omega arith) (add_span max_size (max_size * n) g h (omega arith) s t)
  place_span n g h false f s t = widen (max_size * n) (max_size * suc n) h (omega arith) t

  pub graded_span : (price : ℕ → ℕ → Grade C) (r c : ℕ) → ((p : ℕ) → p ≤ max_size → Spans k max_size (price p c)) → (ps es : List ℕ) → length es ≤ max_places → AllByRecursion (λ p. p ≤ max_size) ps → Spans k (max_size * length es) (graded k price ps es r c)
  graded_span price r c small ps [] f t = let z = laws.zero_span in omega arith
  graded_span price r c small [] (e ∷ es) f t = let z = laws.zero_span in omega arith
  graded_span price r c small (p ∷ ps) (e ∷ es) f t =
      place_span (length es) (price p c) (graded k price ps es r c) (e == r) (omega arith) (small p t.0) (graded_span price r c small ps es (omega arith) t.1)

-- one place more, from the last to the first
module _ {C : Type 0} (k : Kind C) (price : ℕ → ℕ → Grade C) (r c : ℕ) where
  pub graded_none : (ps es : List ℕ) → es ≡ [] → graded k price ps es r c ≡ Open k.zero
  graded_none [] es e = rw e
  graded_none (p ∷ ps) es e = rw e

  module _ (ps es : List ℕ) (i j : ℕ) (next : i + 1 ≡ j) (p-in : i < length ps) (e-in : i < length es) where
    at_both : graded k price (drop i ps) (drop i es) r c ≡ graded k price (slice_index ps i ∷ drop j ps) (slice_index es i ∷ drop j es) r c
    at_both =
        let p : drop i ps ≡ slice_index ps i ∷ drop j ps = drop_more ps i 0 p-in ∙ ap (λ n. slice_index ps i ∷ drop n ps) next in
        let q : drop i es ≡ slice_index es i ∷ drop j es = drop_more es i 0 e-in ∙ ap (λ n. slice_index es i ∷ drop n es) next in
        rw (p, q)

    pub graded_skip : (slice_index es i ≢ r) → graded k price (drop i ps) (drop i es) r c ≡ graded k price (drop j ps) (drop j es) r c
    graded_skip other = at_both ∙ cond-false _ _ _ (ne_eqb _ r other)

    pub graded_add : slice_index_or es i 0 ≡ r → graded k price (drop i ps) (drop i es) r c ≡ add_grade k (price (slice_index ps i) c) (graded k price (drop j ps) (drop j es) r c)
    graded_add same = at_both ∙ cond-true _ _ _ (eq-eqb _ r same)
