-- A set of events with too few open numbers leaves no renumbering allowed.
use Rattle.std.proofs.Common.{◌≡◌, ℕ, suc, ◌+◌, ◌≤◌, Bool, true, false, cond, List, [], ◌∷◌, length, filter, sym, refl, ap, ◌∙◌, subst, inl, inr, arith}
use Rattle.std.specs.List.{range_with_len, AllByRecursion}
use Rattle.std.proofs.lemmas.Bool.{and_parts, or_left, or_right}
use Rattle.costs.specs.Lists.{In, Apart}
use Rattle.tables.specs.Table.{Within}
use Rattle.tables.specs.declared.grade.Grade.{Grade}
use Rattle.judge.specs.Renumbering.{up_to, pairs_from}
use Rattle.judge.specs.Allowed.{is_open, opens, all_open, allowed}
use Rattle.judge.specs.Marks.{is_marked, open_to, open_numbers}
use Rattle.judge.specs.Theorems.{Violators}
use Rattle.costs.proofs.Choose.{pigeons}
use Rattle.judge.proofs.Pairs.{in_counting}

pub in_kept : {X : Type 0} (p : X → Bool) (x : X) (xs : List X) → p x ≡ true → In x xs → In x (filter p xs)
in_kept p x [] e h = h
in_kept p x (y ∷ ys) e (inl m) = subst (λ b. In x (cond b (y ∷ filter p ys) (filter p ys))) (sym (ap p (sym m) ∙ e)) (inl m)
in_kept p x (y ∷ ys) e (inr m) = either (p y) (in_kept p x ys e m)
  where
    either : (b : Bool) → In x (filter p ys) → In x (cond b (y ∷ filter p ys) (filter p ys))
    either true h = inr h
    either false h = h

-- a number that is open to one of the events
open_to_one : (open_at : ℕ → ℕ → Bool) (r c : ℕ) (rs : List ℕ) → open_at r c ≡ true → In r rs → open_to open_at rs c ≡ true
open_to_one open_at r c [] e h = absurd h
open_to_one open_at r c (x ∷ xs) e (inl m) = or_left (open_at x c) (open_to open_at xs c) (subst (λ (y : ℕ). open_at y c ≡ true) m e)
open_to_one open_at r c (x ∷ xs) e (inr m) = or_right (open_at x c) (open_to open_at xs c) (open_to_one open_at r c xs e m)

-- the numbers of the events that pass the test
chosen : (ℕ → Bool) → ℕ → List ℕ → List ℕ
chosen m r [] = []
chosen m r (c ∷ cs) = cond (m r) (c ∷ chosen m (r + 1) cs) (chosen m (r + 1) cs)

chosen_in : (m : ℕ → Bool) (r : ℕ) (cs : List ℕ) (c : ℕ) → In c (chosen m r cs) → In c cs
unfolding chosen
chosen_in m r [] c h = h
chosen_in m r (x ∷ xs) c h = either (m r) (chosen_in m (r + 1) xs c) h
  where
    either : (b : Bool) → (In c (chosen m (r + 1) xs) → In c xs) → In c (cond b (x ∷ chosen m (r + 1) xs) (chosen m (r + 1) xs)) → In c (x ∷ xs)
    either true f (inl e) = inl e
    either true f (inr n) = inr (f n)
    either false f n = inr (f n)

chosen_apart : (m : ℕ → Bool) (r : ℕ) (cs : List ℕ) → Apart cs → Apart (chosen m r cs)
unfolding chosen
chosen_apart m r [] a = tt
chosen_apart m r (x ∷ xs) a = either (m r) (chosen_apart m (r + 1) xs a.1)
  where
    either : (b : Bool) → Apart (chosen m (r + 1) xs) → Apart (cond b (x ∷ chosen m (r + 1) xs) (chosen m (r + 1) xs))
    either true h = (λ n. a.0 (chosen_in m (r + 1) xs x n), h)
    either false h = h

chosen_length : (m : ℕ → Bool) (r : ℕ) (cs : List ℕ) → length (chosen m r cs) ≡ length (filter m (range_with_len r (length cs)))
unfolding chosen
chosen_length m r [] = refl
chosen_length m r (x ∷ xs) = either (m r) (chosen_length m (r + 1) xs)
  where
    either : (b : Bool) → length (chosen m (r + 1) xs) ≡ length (filter m (range_with_len (r + 1) (length xs))) → length (cond b (x ∷ chosen m (r + 1) xs) (chosen m (r + 1) xs)) ≡ length (cond b (r ∷ filter m (range_with_len (r + 1) (length xs))) (filter m (range_with_len (r + 1) (length xs))))
    either true h = ap suc h
    either false h = h

module _ {C : Type 0} (g : ℕ → ℕ → Grade C) (s : ℕ) (m : ℕ → Bool) where
  chosen_open : (r : ℕ) (cs : List ℕ) → 1 ≤ r → r + length cs ≤ s + 1 → AllByRecursion (Within s) cs → all_open g (pairs_from r cs) ≡ true → AllByRecursion (λ c. In c (open_numbers (opens g) s (filter m (up_to s)))) (chosen m r cs)
  unfolding chosen
  chosen_open r [] l h w o = tt
  chosen_open r (x ∷ xs) l h w o =
      let both = and_parts (is_open (g r x)) (all_open g (pairs_from (r + 1) xs)) o in
      either (m r) refl both.0 (chosen_open (r + 1) xs (omega arith) (omega arith) w.1 both.1)
    where
      either : (b : Bool) → m r ≡ b → is_open (g r x) ≡ true → AllByRecursion (λ c. In c (open_numbers (opens g) s (filter m (up_to s)))) (chosen m (r + 1) xs) → AllByRecursion (λ c. In c (open_numbers (opens g) s (filter m (up_to s)))) (cond b (x ∷ chosen m (r + 1) xs) (chosen m (r + 1) xs))
      either true e o1 rest =
          (in_kept (open_to (opens g) (filter m (up_to s))) x (up_to s) (open_to_one (opens g) r x (filter m (up_to s)) o1 (in_kept m r (up_to s) e (in_counting 1 s r l (omega arith)))) (in_counting 1 s x w.0.0 (omega (arith, w.0.1))), rest)
      either false e o1 rest = rest

pub violators : (C : Type 0) → Violators C
unfolding chosen
violators C g s marks few ns re = either (allowed g ns) refl
  where
    m : ℕ → Bool
    m = is_marked marks

    crowd : allowed g ns ≡ true → length (chosen m 1 ns) ≤ length (open_numbers (opens g) s (filter m (up_to s)))
    crowd ok = pigeons (chosen m 1 ns) (open_numbers (opens g) s (filter m (up_to s))) (chosen_apart m 1 ns re.2) (chosen_open g s m 1 ns (omega arith) (omega (arith, re.0)) re.1 ok)

    many : length (chosen m 1 ns) ≡ length (filter m (up_to s))
    many = chosen_length m 1 ns ∙ ap (λ (n : ℕ). length (filter m (range_with_len 1 n))) re.0

    either : (b : Bool) → allowed g ns ≡ b → allowed g ns ≡ false
    either true e = absurd (omega (arith, crowd e, many, few))
    either false e = e
