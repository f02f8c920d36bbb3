-- The orders that a search for the cheapest way to a free number rests on, each at single values.
use Rattle.std.proofs.Common.{◌≡◌, [], ◌∷◌, get_or, sym, refl, subst, arith}
use Rattle.costs.specs.Kind.{Kind, Laws, AtMost}
use Rattle.judge.specs.Seating.{Small}
use Rattle.costs.proofs.Solve.{at, none, ◌⊕◌, ◌⊖◌, solve, le_of_eq}

module _ {C : Type 0} (k : Kind C) (laws : Laws k) where
  -- an event and a number of the tree: prices e - lead and p - e
  pub both_in : (e l p x : C) → Small k e → Small k l → Small k p → Small k x → AtMost k p (k.plus l x) → AtMost k (k.plus (k.minus e l) (k.minus p e)) x
  both_in e l p x se sl sp sx h =
      solve k laws (λ n. get_or (e ∷ l ∷ p ∷ x ∷ []) n k.zero) ((at 2, at 1 ⊕ at 3) ∷ []) ((at 0 ⊖ at 1) ⊕ (at 2 ⊖ at 0)) (at 3) refl (omega arith) (h, tt)

  -- .. the number outside: e is the least of the keys
  pub event_in : (e l p x v : C) → Small k e → Small k l → Small k p → Small k x → Small k v → AtMost k p (k.plus l x) → AtMost k e (k.minus p v) → AtMost k (k.plus (k.minus e l) v) x
  event_in e l p x v se sl sp sx sv h m =
      solve k laws (λ n. get_or (e ∷ l ∷ p ∷ x ∷ v ∷ []) n k.zero) ((at 2, at 1 ⊕ at 3) ∷ (at 0, at 2 ⊖ at 4) ∷ []) ((at 0 ⊖ at 1) ⊕ at 4) (at 3) refl (omega arith) (h, (m, tt))

  -- .. the event outside
  pub number_in : (e p x u v : C) → Small k e → Small k p → Small k x → Small k u → Small k v → AtMost k (k.plus u v) x → AtMost k (k.minus p v) e → AtMost k (k.plus u (k.minus p e)) x
  number_in e p x u v se sp sx su sv h m =
      solve k laws (λ n. get_or (e ∷ p ∷ x ∷ u ∷ v ∷ []) n k.zero) ((at 3 ⊕ at 4, at 2) ∷ (at 1 ⊖ at 4, at 0) ∷ []) (at 3 ⊕ (at 1 ⊖ at 0)) (at 2) refl (omega arith) (h, (m, tt))

  -- the pair by which p was found is tight
  pub way_tight : (e l p x : C) → Small k e → Small k l → Small k p → Small k x → p ≡ k.plus l x → k.plus (k.minus e l) (k.minus p e) ≡ x
  way_tight e l p x se sl sp sx h =
      laws.order_antisym (k.plus (k.minus e l) (k.minus p e)) x
      (both_in e l p x se sl sp sx (le_of_eq k laws p (k.plus l x) h))
      (solve k laws (λ n. get_or (e ∷ l ∷ p ∷ x ∷ []) n k.zero) ((at 1 ⊕ at 3, at 2) ∷ []) (at 3) ((at 0 ⊖ at 1) ⊕ (at 2 ⊖ at 0)) refl (omega arith) (le_of_eq k laws (k.plus l x) p (sym h), tt))

  -- the pair of a number of the tree with its holder stays tight: lead is p - x
  pub held_tight : (e p x : C) → Small k e → Small k p → Small k x → k.plus (k.minus e (k.minus p x)) (k.minus p e) ≡ x
  held_tight e p x se sp sx =
      laws.order_antisym (k.plus (k.minus e (k.minus p x)) (k.minus p e)) x
      (solve k laws (λ n. get_or (e ∷ p ∷ x ∷ []) n k.zero) [] ((at 0 ⊖ (at 1 ⊖ at 2)) ⊕ (at 1 ⊖ at 0)) (at 2) refl (omega arith) tt)
      (solve k laws (λ n. get_or (e ∷ p ∷ x ∷ []) n k.zero) [] (at 2) ((at 0 ⊖ (at 1 ⊖ at 2)) ⊕ (at 1 ⊖ at 0)) refl (omega arith) tt)

  -- the end: its price is nothing, and e is its path
  pub end_tight : (l p x : C) → Small k l → Small k p → Small k x → p ≡ k.plus l x → k.plus (k.minus p l) k.zero ≡ x
  end_tight l p x sl sp sx h =
      laws.order_antisym (k.plus (k.minus p l) k.zero) x
      (solve k laws (λ n. get_or (l ∷ p ∷ x ∷ []) n k.zero) ((at 1, at 0 ⊕ at 2) ∷ []) ((at 1 ⊖ at 0) ⊕ none) (at 2) refl (omega arith) (le_of_eq k laws p (k.plus l x) h, tt))
      (solve k laws (λ n. get_or (l ∷ p ∷ x ∷ []) n k.zero) ((at 0 ⊕ at 2, at 1) ∷ []) (at 2) ((at 1 ⊖ at 0) ⊕ none) refl (omega arith) (le_of_eq k laws (k.plus l x) p (sym h), tt))

  -- scanning number j, held by an event with prices u: a scanned number c is not reached more cheaply
  pub no_shortcut : (p q v w u x y : C) → Small k p → Small k q → Small k v → Small k w → Small k u → Small k x → Small k y → AtMost k (k.minus p v) (k.minus q w) → AtMost k (k.plus u v) x → k.plus u w ≡ y → AtMost k p (k.plus (k.minus q y) x)
  no_shortcut p q v w u x y sp sq sv sw su sx sy h under tight =
      solve k laws (λ n. get_or (p ∷ q ∷ v ∷ w ∷ u ∷ x ∷ y ∷ []) n k.zero)
      ((at 0 ⊖ at 2, at 1 ⊖ at 3) ∷ (at 4 ⊕ at 2, at 5) ∷ (at 6, at 4 ⊕ at 3) ∷ [])
      (at 0) ((at 1 ⊖ at 6) ⊕ at 5) refl (omega arith) (h, (under, (le_of_eq k laws y (k.plus u w) (sym tight), tt)))

  -- .. and the key of what is reached from j is at least that of j
  pub keys_rise : (q v w u x y : C) → Small k q → Small k v → Small k w → Small k u → Small k x → Small k y → AtMost k (k.plus u v) x → k.plus u w ≡ y → AtMost k (k.minus q w) (k.minus (k.plus (k.minus q y) x) v)
  keys_rise q v w u x y sq sv sw su sx sy under tight =
      solve k laws (λ n. get_or (q ∷ v ∷ w ∷ u ∷ x ∷ y ∷ []) n k.zero)
      ((at 3 ⊕ at 1, at 4) ∷ (at 5, at 3 ⊕ at 2) ∷ [])
      (at 0 ⊖ at 2) (((at 0 ⊖ at 5) ⊕ at 4) ⊖ at 1) refl (omega arith) (under, (le_of_eq k laws y (k.plus u w) (sym tight), tt))

  -- the key of a free number is its path
  pub free_key : (m e w : C) → Small k e → w ≡ k.zero → AtMost k m (k.minus e w) → AtMost k m e
  free_key m e w se z h =
      laws.order_trans m (k.minus e k.zero) e (subst (λ y. AtMost k m (k.minus e y)) z h)
      (solve k laws (λ n. get_or (e ∷ []) n k.zero) [] (at 0 ⊖ none) (at 0) refl (omega arith) tt)

  -- from a number back to its holder and to it again
  pub back_again : (p y : C) → Small k p → Small k y → AtMost k p (k.plus (k.minus p y) y)
  back_again p y sp sy = solve k laws (λ n. get_or (p ∷ y ∷ []) n k.zero) [] (at 0) ((at 0 ⊖ at 1) ⊕ at 1) refl (omega arith) tt

  pub path_key : (m e w : C) → Small k e → w ≡ k.zero → AtMost k (k.minus e w) m → AtMost k e m
  path_key m e w se z h =
      laws.order_trans e (k.minus e k.zero) m (solve k laws (λ n. get_or (e ∷ []) n k.zero) [] (at 0) (at 0 ⊖ none) refl (omega arith) tt)
      (subst (λ y. AtMost k (k.minus e y) m) z h)

  -- an event's price, from the cost of its pair
  pub price_back : (u v x : C) → Small k u → Small k v → Small k x → k.plus u v ≡ x → u ≡ k.minus x v
  price_back u v x su sv sx h =
      laws.order_antisym u (k.minus x v)
      (solve k laws (λ n. get_or (u ∷ v ∷ x ∷ []) n k.zero) ((at 0 ⊕ at 1, at 2) ∷ []) (at 0) (at 2 ⊖ at 1) refl (omega arith) (le_of_eq k laws (k.plus u v) x h, tt))
      (solve k laws (λ n. get_or (u ∷ v ∷ x ∷ []) n k.zero) ((at 2, at 0 ⊕ at 1) ∷ []) (at 2 ⊖ at 1) (at 0) refl (omega arith) (le_of_eq k laws x (k.plus u v) (sym h), tt))

  -- an event that takes a free number at cost x: no pair of it is undercut
  pub seat_under : (x y v : C) → Small k x → Small k y → Small k v → AtMost k x (k.minus y v) → AtMost k (k.plus x v) y
  seat_under x y v sx sy sv h = solve k laws (λ n. get_or (x ∷ y ∷ v ∷ []) n k.zero) ((at 0, at 1 ⊖ at 2) ∷ []) (at 0 ⊕ at 2) (at 1) refl (omega arith) (h, tt)

  -- .. where numbers have no prices yet, by the costs alone
  pub no_price : (x y v : C) → Small k x → Small k y → v ≡ k.zero → AtMost k x y → AtMost k x (k.minus y v)
  no_price x y v sx sy z h =
      subst (λ w. AtMost k x (k.minus y w)) (sym z)
      (solve k laws (λ n. get_or (x ∷ y ∷ []) n k.zero) ((at 0, at 1) ∷ []) (at 0) (at 1 ⊖ none) refl (omega arith) (h, tt))
