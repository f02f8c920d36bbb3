-- Sums over a kind of costs. What bounds a sum is the sum of its spans.
use Rattle.std.proofs.Common.{◌≡◌, ℕ, ◌+◌, ◌*◌, ◌≤◌, ◌⊎◌, List, [], ◌∷◌, ◌++◌, length, sym, refl, ap, ◌∙◌, subst, inl, inr, arith}
use Rattle.std.specs.List.{AllByRecursion}
use Rattle.costs.specs.Kind.{Kind, Laws, AtMost, limit}
use Rattle.costs.specs.Lists.{In, Apart}
use Rattle.costs.specs.Sums.{sum_of, spans}
use Rattle.costs.proofs.Choose.{out, length_out, sub_out}

-- one value and three, under one bound
module _ {C : Type 0} (k : Kind C) (laws : Laws k) where
  pub at_most_itself : (a : C) → AtMost k a a
  at_most_itself a = one (laws.order_total a a)
    where
      one : (AtMost k a a) ⊎ (AtMost k a a) → AtMost k a a
      one (inl e) = e
      one (inr e) = e

  pub regroup : (a b c : C) → k.span a + k.span b + k.span c ≤ limit → k.plus (k.plus a b) c ≡ k.plus a (k.plus b c)
  regroup a b c h =
      laws.plus_assoc a b c (omega arith) (omega (arith, laws.plus_span a b)) (omega arith) (omega (arith, laws.plus_span b c))

  pub swap : (a b c : C) → k.span a + k.span b + k.span c ≤ limit → k.plus a (k.plus b c) ≡ k.plus b (k.plus a c)
  swap a b c h =
      sym (regroup a b c h) ∙ ap (λ x. k.plus x c) (laws.plus_comm a b (omega arith)) ∙ regroup b a c (omega arith)

  -- (a + b) + (c + d) = (a + c) + (b + d)
  pub cross : (a b c d : C) → k.span a + k.span b + k.span c + k.span d ≤ limit → k.plus (k.plus a b) (k.plus c d) ≡ k.plus (k.plus a c) (k.plus b d)
  cross a b c d h =
      regroup a b (k.plus c d) (omega (arith, laws.plus_span c d))
      ∙ ap (k.plus a) (swap b c d (omega arith))
      ∙ sym (regroup a c (k.plus b d) (omega (arith, laws.plus_span b d)))

  pub plus_rises : (a b c d : C) → k.span a + k.span c ≤ limit → k.span b + k.span c ≤ limit → k.span b + k.span d ≤ limit → AtMost k a b → AtMost k c d → AtMost k (k.plus a c) (k.plus b d)
  plus_rises a b c d h1 h2 h3 le lf =
      laws.order_trans (k.plus a c) (k.plus b c) (k.plus b d) (laws.plus_order a b c h1 h2 le)
      (subst (λ x. AtMost k x (k.plus b d)) (laws.plus_comm c b (omega arith))
      (subst (λ x. AtMost k (k.plus c b) x) (laws.plus_comm d b (omega arith)) (laws.plus_order c d b (omega arith) (omega arith) lf)))

module _ {C : Type 0} (k : Kind C) {X : Type 0} where
  pub spans_le : (f : X → C) (m : ℕ) (xs : List X) → AllByRecursion (λ x. k.span (f x) ≤ m) xs → spans k f xs ≤ length xs * m
  spans_le f m [] h = omega arith
  spans_le f m (x ∷ xs) h = omega (arith, spans_le f m xs h.1, h.0)

  pub sum_of_same : (f g : X → C) (xs : List X) → AllByRecursion (λ x. f x ≡ g x) xs → sum_of k f xs ≡ sum_of k g xs
  sum_of_same f g [] a = refl
  sum_of_same f g (x ∷ xs) a = ap (λ y. k.plus y (sum_of k f xs)) a.0 ∙ ap (k.plus (g x)) (sum_of_same f g xs a.1)

  -- one entry taken out
  pub spans_out : (f : X → C) (c : X) (xs : List X) (h : In c xs) → spans k f xs ≡ k.span (f c) + spans k f (out c xs h)
  spans_out f c [] h = absurd h
  spans_out f c (x ∷ xs) (inl e) = ap (λ y. k.span (f y) + spans k f xs) (sym e)
  spans_out f c (x ∷ xs) (inr h) = omega (arith, spans_out f c xs h)

  pub spans_reindex : (f : X → C) (xs ys : List X) → Apart xs → AllByRecursion (λ x. In x ys) xs → length xs ≡ length ys → spans k f xs ≡ spans k f ys
  spans_reindex f [] [] a s e = refl
  spans_reindex f [] (y ∷ ys) a s e = absurd (omega arith)
  spans_reindex f (x ∷ xs) ys a s e =
      omega (arith, spans_reindex f xs (out x ys s.0) a.1 (sub_out x ys s.0 xs a.0 s.1) (omega (arith, length_out x ys s.0)), spans_out f x ys s.0)

  pub spans_append : (f : X → C) (xs ys : List X) → spans k f (xs ++ ys) ≡ spans k f xs + spans k f ys
  spans_append f [] ys = omega arith
  spans_append f (x ∷ xs) ys = omega (arith, spans_append f xs ys)

module _ {C : Type 0} (k : Kind C) (laws : Laws k) {X : Type 0} where
  pub sum_of_span : (f : X → C) (xs : List X) → spans k f xs ≤ limit → k.span (sum_of k f xs) ≤ spans k f xs
  sum_of_span f [] h = omega (arith, laws.zero_span)
  sum_of_span f (x ∷ xs) h =
      let below : k.span (sum_of k f xs) ≤ spans k f xs = sum_of_span f xs (omega arith) in
      omega (arith, laws.plus_span (f x) (sum_of k f xs))

  pub sum_of_append : (f : X → C) (xs ys : List X) → spans k f xs + spans k f ys ≤ limit → sum_of k f (xs ++ ys) ≡ k.plus (sum_of k f xs) (sum_of k f ys)
  sum_of_append f [] ys h =
      sym (laws.plus_comm k.zero (sum_of k f ys) (omega (arith, laws.zero_span, sum_of_span f ys))
      ∙ laws.plus_zero (sum_of k f ys) (omega (arith, laws.zero_span, sum_of_span f ys)))
  sum_of_append f (x ∷ xs) ys h =
      ap (k.plus (f x)) (sum_of_append f xs ys (omega arith))
      ∙ sym (regroup k laws (f x) (sum_of k f xs) (sum_of k f ys) (omega (arith, sum_of_span f xs, sum_of_span f ys)))

  -- sum of f + g
  pub sum_of_both : (f g : X → C) (xs : List X) → spans k f xs + spans k g xs ≤ limit → sum_of k (λ x. k.plus (f x) (g x)) xs ≡ k.plus (sum_of k f xs) (sum_of k g xs)
  sum_of_both f g [] h = sym (laws.plus_zero k.zero (omega (arith, laws.zero_span)))
  sum_of_both f g (x ∷ xs) h =
      ap (k.plus (k.plus (f x) (g x))) (sum_of_both f g xs (omega arith))
      ∙ cross k laws (f x) (g x) (sum_of k f xs) (sum_of k g xs) (omega (arith, sum_of_span f xs, sum_of_span g xs))

  pub spans_both : (f g : X → C) (xs : List X) → spans k f xs + spans k g xs ≤ limit → spans k (λ x. k.plus (f x) (g x)) xs ≤ spans k f xs + spans k g xs
  spans_both f g [] h = omega arith
  spans_both f g (x ∷ xs) h = omega (arith, spans_both f g xs (omega arith), laws.plus_span (f x) (g x))

  pub sum_of_rises : (f g : X → C) (xs : List X) → spans k f xs + spans k g xs ≤ limit → AllByRecursion (λ x. AtMost k (f x) (g x)) xs → AtMost k (sum_of k f xs) (sum_of k g xs)
  sum_of_rises f g [] h a = at_most_itself k laws k.zero
  sum_of_rises f g (x ∷ xs) h a =
      plus_rises k laws (f x) (g x) (sum_of k f xs) (sum_of k g xs)
      (omega (arith, sum_of_span f xs)) (omega (arith, sum_of_span f xs)) (omega (arith, sum_of_span g xs))
      a.0 (sum_of_rises f g xs (omega arith) a.1)

  pub sum_of_out : (f : X → C) (c : X) (xs : List X) (h : In c xs) → spans k f xs ≤ limit → sum_of k f xs ≡ k.plus (f c) (sum_of k f (out c xs h))
  sum_of_out f c [] h b = absurd h
  sum_of_out f c (x ∷ xs) (inl e) b = ap (λ y. k.plus (f y) (sum_of k f xs)) (sym e)
  sum_of_out f c (x ∷ xs) (inr h) b =
      ap (k.plus (f x)) (sum_of_out f c xs h (omega arith))
      ∙ swap k laws (f x) (f c) (sum_of k f (out c xs h)) (omega (arith, spans_out k f c xs h, sum_of_span f (out c xs h)))

  -- xs, with no two the same, uses up ys: the sum over either is the same
  pub reindex : (f : X → C) (xs ys : List X) → Apart xs → AllByRecursion (λ x. In x ys) xs → length xs ≡ length ys → spans k f ys ≤ limit → sum_of k f xs ≡ sum_of k f ys
  reindex f [] [] a s e b = refl
  reindex f [] (y ∷ ys) a s e b = absurd (omega arith)
  reindex f (x ∷ xs) ys a s e b =
      ap (k.plus (f x)) (reindex f xs (out x ys s.0) a.1 (sub_out x ys s.0 xs a.0 s.1) (omega (arith, length_out x ys s.0)) (omega (arith, spans_out k f x ys s.0)))
      ∙ sym (sum_of_out f x ys s.0 b)
