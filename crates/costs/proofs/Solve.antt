-- Orders between sums and differences of costs, by moving differences over and comparing what is left as lists.
use Rattle.std.proofs.Common.{◌≡◌, ℕ, ◌+◌, ◌*◌, ◌≤◌, Bool, true, false, cond, ◌&&◌, ◌||◌, eqb, ◌⊎◌, List, [], ◌∷◌, ◌++◌, sym, refl, ap, ◌∙◌, subst, inl, inr, arith}
use Rattle.std.proofs.lemmas.Bool.{eqb-true, and_parts, false≢true}
use Rattle.costs.specs.Kind.{Kind, Laws, AtMost, limit}
use Rattle.costs.specs.Lists.{without}
use Rattle.costs.specs.Sums.{sum_of, spans}
use Rattle.costs.proofs.Sums.{spans_append, sum_of_span, sum_of_append, regroup, swap, cross, plus_rises, at_most_itself}

-- a sum and a difference of values, each value by its place in a list
pub data Exp : Type 0 where
  at : ℕ → Exp
  none : Exp
  ◌⊕◌ ◌⊖◌ : Exp → Exp → Exp

infixl 60 ◌⊕◌
infixl 60 ◌⊖◌
-- the places that are added (true), and those that are taken away (false)
abbrev pub side : Exp → Bool → List ℕ
side (at n) true = n ∷ []
side (at n) false = []
side none b = []
side (x ⊕ y) b = side x b ++ side y b
side (x ⊖ y) true = side x true ++ side y false
side (x ⊖ y) false = side x false ++ side y true

-- x is at most y, with nothing taken away
abbrev pub lower : Exp × Exp → List ℕ
lower p = side p.0 true ++ side p.1 false

abbrev pub upper : Exp × Exp → List ℕ
upper p = side p.1 true ++ side p.0 false

abbrev pub lowers : List (Exp × Exp) → List ℕ
lowers [] = []
lowers (p ∷ ps) = lower p ++ lowers ps

abbrev pub uppers : List (Exp × Exp) → List ℕ
uppers [] = []
uppers (p ∷ ps) = upper p ++ uppers ps

abbrev pub holds : ℕ → List ℕ → Bool
holds c [] = false
holds c (x ∷ xs) = eqb c x || holds c xs

-- the same numbers, each as often
abbrev pub same : List ℕ → List ℕ → Bool
same [] [] = true
same [] (y ∷ ys) = false
same (x ∷ xs) ys = holds x ys && same xs (without x ys)

module _ {C : Type 0} (k : Kind C) (laws : Laws k) where
  pub le_of_eq : (a b : C) → a ≡ b → AtMost k a b
  le_of_eq a b e = subst (λ z. AtMost k a z) e (at_most_itself k laws a)

  pub cancel : (a b c : C) → k.span a + k.span c ≤ limit → k.span b + k.span c ≤ limit → AtMost k (k.plus a c) (k.plus b c) → AtMost k a b
  cancel a b c h1 h2 le = go (laws.order_total a b)
    where
      go : (AtMost k a b) ⊎ (AtMost k b a) → AtMost k a b
      go (inl e) = e
      go (inr e) = subst (λ x. AtMost k a x) (laws.plus_apart a b c h1 h2 (laws.order_antisym (k.plus a c) (k.plus b c) le (laws.plus_order b a c h2 h1 e))) (at_most_itself k laws a)

module _ {C : Type 0} (k : Kind C) (laws : Laws k) (f : ℕ → C) where
  spans_without : (c : ℕ) (xs : List ℕ) → holds c xs ≡ true → spans k f xs ≡ k.span (f c) + spans k f (without c xs)
  spans_without c [] h = absurd (false≢true h)
  spans_without c (x ∷ xs) h = go (eqb c x) refl h (spans_without c xs)
    where
      go : (b : Bool) → eqb c x ≡ b → (b || holds c xs) ≡ true → (holds c xs ≡ true → spans k f xs ≡ k.span (f c) + spans k f (without c xs)) → k.span (f x) + spans k f xs ≡ k.span (f c) + spans k f (cond b xs (x ∷ without c xs))
      go true e i r = ap (λ y. k.span (f y) + spans k f xs) (sym (eqb-true c x e))
      go false e i r = omega (arith, r i)

  sum_without : (c : ℕ) (xs : List ℕ) → holds c xs ≡ true → spans k f xs ≤ limit → sum_of k f xs ≡ k.plus (f c) (sum_of k f (without c xs))
  sum_without c [] h b = absurd (false≢true h)
  sum_without c (x ∷ xs) h b = go (eqb c x) refl h (sum_without c xs)
    where
      go : (t : Bool) → eqb c x ≡ t → (t || holds c xs) ≡ true → (holds c xs ≡ true → spans k f xs ≤ limit → sum_of k f xs ≡ k.plus (f c) (sum_of k f (without c xs))) → k.plus (f x) (sum_of k f xs) ≡ k.plus (f c) (sum_of k f (cond t xs (x ∷ without c xs)))
      go true e i r = ap (λ y. k.plus (f y) (sum_of k f xs)) (sym (eqb-true c x e))
      go false e i r =
          ap (k.plus (f x)) (r i (omega arith))
          ∙ swap k laws (f x) (f c) (sum_of k f (without c xs)) (omega (arith, spans_without c xs i, sum_of_span k laws f (without c xs)))

  pub same_sum : (xs ys : List ℕ) → same xs ys ≡ true → spans k f ys ≤ limit → sum_of k f xs ≡ sum_of k f ys
  same_sum [] [] e b = refl
  same_sum [] (y ∷ ys) e b = absurd (false≢true e)
  same_sum (x ∷ xs) ys e b =
      let t = and_parts (holds x ys) (same xs (without x ys)) e in
      ap (k.plus (f x)) (same_sum xs (without x ys) t.1 (omega (arith, spans_without x ys t.0)))
      ∙ sym (sum_without x ys t.0 b)

  abbrev pub val : Exp → C
  val (at n) = f n
  val none = k.zero
  val (x ⊕ y) = k.plus (val x) (val y)
  val (x ⊖ y) = k.minus (val x) (val y)

  abbrev pub weight : Exp → ℕ
  weight (at n) = k.span (f n)
  weight none = 0
  weight (x ⊕ y) = weight x + weight y
  weight (x ⊖ y) = weight x + weight y

  pub val_span : (e : Exp) → weight e ≤ limit → k.span (val e) ≤ weight e
  val_span (at n) h = omega arith
  val_span none h = omega (arith, laws.zero_span)
  val_span (x ⊕ y) h = omega (arith, laws.plus_span (val x) (val y), val_span x (omega arith), val_span y (omega arith))
  val_span (x ⊖ y) h = omega (arith, laws.minus_span (val x) (val y), val_span x (omega arith), val_span y (omega arith))

  sides : (e : Exp) → spans k f (side e true) + spans k f (side e false) ≡ weight e
  sides (at n) = omega arith
  sides none = omega arith
  sides (x ⊕ y) = omega (arith, sides x, sides y, spans_append k f (side x true) (side y true), spans_append k f (side x false) (side y false))
  sides (x ⊖ y) = omega (arith, sides x, sides y, spans_append k f (side x true) (side y false), spans_append k f (side x false) (side y true))

  module _ (e : Exp) (b : Bool) where
    side-span : weight e ≤ limit → k.span (sum_of k f (side e b)) ≤ weight e
    side-span h = go b
      where
        go : (b : Bool) → k.span (sum_of k f (side e b)) ≤ weight e
        go true = omega (arith, sides e, sum_of_span k laws f (side e true))
        go false = omega (arith, sides e, sum_of_span k laws f (side e false))

  -- what is taken away, put back
  balanced : (e : Exp) → weight e * 4 ≤ limit → k.plus (val e) (sum_of k f (side e false)) ≡ sum_of k f (side e true)
  balanced (at n) h = refl
  balanced none h = laws.plus_zero k.zero (omega (arith, laws.zero_span))
  balanced (x ⊕ y) h =
      ap (k.plus (k.plus (val x) (val y))) (sum_of_append k laws f (side x false) (side y false) (omega (arith, sides x, sides y)))
      ∙ cross k laws (val x) (val y) (sum_of k f (side x false)) (sum_of k f (side y false))
      (omega (arith, val_span x (omega arith), val_span y (omega arith), side-span x false (omega arith), side-span y false (omega arith)))
      ∙ ap (λ z. k.plus z (k.plus (val y) (sum_of k f (side y false)))) (balanced x (omega arith))
      ∙ ap (k.plus (sum_of k f (side x true))) (balanced y (omega arith))
      ∙ sym (sum_of_append k laws f (side x true) (side y true) (omega (arith, sides x, sides y)))
  balanced (x ⊖ y) h =
      let m = k.minus (val x) (val y) in
      let dx = sum_of k f (side x false) in
      let dy = sum_of k f (side y false) in
      let sx : k.span (val x) ≤ weight x = val_span x (omega arith) in
      let sy : k.span (val y) ≤ weight y = val_span y (omega arith) in
      let sm : k.span m ≤ k.span (val x) + k.span (val y) = laws.minus_span (val x) (val y) (omega arith) in
      let sdx : k.span dx ≤ weight x = side-span x false (omega arith) in
      let sdy : k.span dy ≤ weight y = side-span y false (omega arith) in
      let sd : k.span (k.plus dx dy) ≤ k.span dx + k.span dy = laws.plus_span dx dy (omega arith) in
      ap (k.plus m) (sum_of_append k laws f (side x false) (side y true) (omega (arith, sides x, sides y)))
      ∙ ap (λ z. k.plus m (k.plus dx z)) (sym (balanced y (omega arith)))
      ∙ ap (k.plus m) (swap k laws dx (val y) dy (omega arith))
      ∙ sym (regroup k laws m (val y) (k.plus dx dy) (omega arith))
      ∙ ap (λ z. k.plus z (k.plus dx dy)) (laws.minus_plus (val x) (val y) (omega arith) (omega arith))
      ∙ sym (regroup k laws (val x) dx dy (omega arith))
      ∙ ap (λ z. k.plus z dy) (balanced x (omega arith))
      ∙ sym (sum_of_append k laws f (side x true) (side y false) (omega (arith, sides x, sides y)))

  -- x, and what x and y take away
  shifted : (x y : Exp) → (weight x + weight y) * 4 ≤ limit → k.plus (val x) (k.plus (sum_of k f (side x false)) (sum_of k f (side y false))) ≡ sum_of k f (side x true ++ side y false)
  shifted x y h =
      let sx : k.span (val x) ≤ weight x = val_span x (omega arith) in
      let sdx : k.span (sum_of k f (side x false)) ≤ weight x = side-span x false (omega arith) in
      let sdy : k.span (sum_of k f (side y false)) ≤ weight y = side-span y false (omega arith) in
      sym (regroup k laws (val x) (sum_of k f (side x false)) (sum_of k f (side y false)) (omega arith))
      ∙ ap (λ z. k.plus z (sum_of k f (side y false))) (balanced x (omega arith))
      ∙ sym (sum_of_append k laws f (side x true) (side y false) (omega (arith, sides x, sides y)))

  shifted_other : (x y : Exp) → (weight x + weight y) * 4 ≤ limit → k.plus (val y) (k.plus (sum_of k f (side x false)) (sum_of k f (side y false))) ≡ sum_of k f (side y true ++ side x false)
  shifted_other x y h =
      ap (k.plus (val y)) (laws.plus_comm (sum_of k f (side x false)) (sum_of k f (side y false)) (omega (arith, side-span x false (omega arith), side-span y false (omega arith))))
      ∙ shifted y x (omega arith)

  module _ (x y : Exp) (h : (weight x + weight y) * 4 ≤ limit) where
    away : C
    away = k.plus (sum_of k f (side x false)) (sum_of k f (side y false))

    away-span : k.span away ≤ weight x + weight y
    unfolding away
    away-span = omega (arith, laws.plus_span (sum_of k f (side x false)) (sum_of k f (side y false)), side-span x false (omega arith), side-span y false (omega arith))

    bound-x : k.span (val x) + k.span away ≤ limit
    bound-x = omega (arith, away-span, val_span x (omega arith))

    bound-y : k.span (val y) + k.span away ≤ limit
    bound-y = omega (arith, away-span, val_span y (omega arith))

    le_out : AtMost k (val x) (val y) → AtMost k (sum_of k f (lower (x, y))) (sum_of k f (upper (x, y)))
    unfolding away
    le_out le =
        subst (λ z. AtMost k z (sum_of k f (upper (x, y)))) (shifted x y h)
        (subst (λ z. AtMost k (k.plus (val x) away) z) (shifted_other x y h) (laws.plus_order (val x) (val y) away bound-x bound-y le))

    le_in : AtMost k (sum_of k f (lower (x, y))) (sum_of k f (upper (x, y))) → AtMost k (val x) (val y)
    unfolding away
    le_in le =
        cancel k laws (val x) (val y) away bound-x bound-y
        (subst (λ z. AtMost k z (k.plus (val y) away)) (sym (shifted x y h))
        (subst (λ z. AtMost k (sum_of k f (lower (x, y))) z) (sym (shifted_other x y h)) le))

  abbrev pub weights : List (Exp × Exp) → ℕ
  weights [] = 0
  weights (p ∷ ps) = weight p.0 + weight p.1 + weights ps

  abbrev pub EachHolds : List (Exp × Exp) → Type 0
  EachHolds [] = Unit {0}
  EachHolds (p ∷ ps) = (AtMost k (val p.0) (val p.1)) × EachHolds ps

  ends : (p : Exp × Exp) → spans k f (lower p) + spans k f (upper p) ≡ weight p.0 + weight p.1
  ends p = omega (arith, sides p.0, sides p.1, spans_append k f (side p.0 true) (side p.1 false), spans_append k f (side p.1 true) (side p.0 false))

  all_ends : (ps : List (Exp × Exp)) → spans k f (lowers ps) + spans k f (uppers ps) ≡ weights ps
  all_ends [] = omega arith
  all_ends (p ∷ ps) = omega (arith, ends p, all_ends ps, spans_append k f (lower p) (lowers ps), spans_append k f (upper p) (uppers ps))

  all_out : (ps : List (Exp × Exp)) → weights ps * 4 ≤ limit → EachHolds ps → AtMost k (sum_of k f (lowers ps)) (sum_of k f (uppers ps))
  all_out [] h a = at_most_itself k laws k.zero
  all_out (p ∷ ps) h a =
      let el = ends p in
      let es = all_ends ps in
      let s1 : k.span (sum_of k f (lower p)) ≤ spans k f (lower p) = sum_of_span k laws f (lower p) (omega arith) in
      let s2 : k.span (sum_of k f (upper p)) ≤ spans k f (upper p) = sum_of_span k laws f (upper p) (omega arith) in
      let s3 : k.span (sum_of k f (lowers ps)) ≤ spans k f (lowers ps) = sum_of_span k laws f (lowers ps) (omega arith) in
      let s4 : k.span (sum_of k f (uppers ps)) ≤ spans k f (uppers ps) = sum_of_span k laws f (uppers ps) (omega arith) in
      subst (λ z. AtMost k z (sum_of k f (uppers (p ∷ ps)))) (sym (sum_of_append k laws f (lower p) (lowers ps) (omega arith)))
      (subst (λ z. AtMost k (k.plus (sum_of k f (lower p)) (sum_of k f (lowers ps))) z) (sym (sum_of_append k laws f (upper p) (uppers ps) (omega arith)))
      (plus_rises k laws (sum_of k f (lower p)) (sum_of k f (upper p)) (sum_of k f (lowers ps)) (sum_of k f (uppers ps)) (omega arith) (omega arith) (omega arith)
      (le_out p.0 p.1 (omega arith) a.0) (all_out ps (omega arith) a.1)))

  -- x is at most y, since the facts added up say so
  pub solve : (ps : List (Exp × Exp)) (x y : Exp) → same (lower (x, y) ++ uppers ps) (upper (x, y) ++ lowers ps) ≡ true → (weight x + weight y + weights ps) * 4 ≤ limit → EachHolds ps → AtMost k (val x) (val y)
  solve ps x y t h a =
      let el = ends (x, y) in
      let es = all_ends ps in
      let l = lower (x, y) in
      let u = upper (x, y) in
      let s1 : k.span (sum_of k f l) ≤ spans k f l = sum_of_span k laws f l (omega arith) in
      let s2 : k.span (sum_of k f u) ≤ spans k f u = sum_of_span k laws f u (omega arith) in
      let s3 : k.span (sum_of k f (lowers ps)) ≤ spans k f (lowers ps) = sum_of_span k laws f (lowers ps) (omega arith) in
      let s4 : k.span (sum_of k f (uppers ps)) ≤ spans k f (uppers ps) = sum_of_span k laws f (uppers ps) (omega arith) in
      let meet : k.plus (sum_of k f l) (sum_of k f (uppers ps)) ≡ k.plus (sum_of k f u) (sum_of k f (lowers ps)) =
      sym (sum_of_append k laws f l (uppers ps) (omega arith)) ∙ same_sum (l ++ uppers ps) (u ++ lowers ps) t (omega (arith, spans_append k f u (lowers ps))) ∙ sum_of_append k laws f u (lowers ps) (omega arith) in
      le_in x y (omega arith)
      (cancel k laws (sum_of k f l) (sum_of k f u) (sum_of k f (uppers ps)) (omega arith) (omega arith)
      (subst (λ z. AtMost k z (k.plus (sum_of k f u) (sum_of k f (uppers ps)))) (sym meet)
      (plus_rises k laws (sum_of k f u) (sum_of k f u) (sum_of k f (lowers ps)) (sum_of k f (uppers ps)) (omega arith) (omega arith) (omega arith)
      (at_most_itself k laws (sum_of k f u)) (all_out ps (omega arith) a))))
