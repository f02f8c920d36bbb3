-- Lists with no two entries the same, inside other lists.
use Rattle.std.proofs.Common.{◌≡◌, suc, ◌≤◌, List, [], ◌∷◌, length, sym, refl, ap, ◌∙◌, inl, inr, arith}
use Rattle.std.specs.List.{AllByRecursion}
use Rattle.costs.specs.Lists.{In, Apart}

module _ {X : Type 0} where
  -- the list without the place that holds c
  abbrev pub out : (c : X) (xs : List X) → In c xs → List X
  out c [] h = absurd h
  out c (x ∷ xs) (inl e) = xs
  out c (x ∷ xs) (inr h) = x ∷ out c xs h

  pub length_out : (c : X) (xs : List X) (h : In c xs) → length xs ≡ suc (length (out c xs h))
  length_out c [] h = absurd h
  length_out c (x ∷ xs) (inl e) = refl
  length_out c (x ∷ xs) (inr h) = ap suc (length_out c xs h)

  pub in_out : (c d : X) (xs : List X) (h : In c xs) → (d ≡ c → ⊥) → In d xs → In d (out c xs h)
  in_out c d [] h n m = absurd h
  in_out c d (x ∷ xs) (inl e) n (inl m) = absurd (n (m ∙ sym e))
  in_out c d (x ∷ xs) (inl e) n (inr m) = m
  in_out c d (x ∷ xs) (inr h) n (inl m) = inl m
  in_out c d (x ∷ xs) (inr h) n (inr m) = inr (in_out c d xs h n m)

  pub sub_out : (c : X) (ys : List X) (h : In c ys) (xs : List X) → (In c xs → ⊥) → AllByRecursion (λ x. In x ys) xs → AllByRecursion (λ x. In x (out c ys h)) xs
  sub_out c ys h [] n s = tt
  sub_out c ys h (x ∷ xs) n s = (in_out c x ys h (λ e. n (inl (sym e))) s.0, sub_out c ys h xs (λ m. n (inr m)) s.1)

  -- more entries than places cannot all differ
  pub pigeons : (xs ys : List X) → Apart xs → AllByRecursion (λ x. In x ys) xs → length xs ≤ length ys
  pigeons [] ys a s = omega arith
  pigeons (x ∷ xs) ys a s =
      let rest : length xs ≤ length (out x ys s.0) = pigeons xs (out x ys s.0) a.1 (sub_out x ys s.0 xs a.0 s.1) in
      omega (arith, length_out x ys s.0)
