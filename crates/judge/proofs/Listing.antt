-- The list of all renumberings.
use Rattle.std.proofs.Common.{◌≡◌, ℕ, zero, suc, ◌+◌, ◌<◌, ◌≤◌, Bool, true, false, cond, eqb, ◌⊎◌, List, [], ◌∷◌, ◌++◌, map, length, sym, refl, ap, ◌∙◌, subst, inl, inr, arith}
use Rattle.std.specs.List.{range_with_len, AllByRecursion}
use Rattle.std.proofs.lemmas.Bool.{eqb-true, eqb-false}
use Rattle.costs.specs.Lists.{In, Apart, without}
use Rattle.tables.specs.Table.{Within}
use Rattle.judge.specs.Renumbering.{up_to}
use Rattle.judge.specs.Enumeration.{headed, arrangements}
use Rattle.judge.specs.Theorems.{Enumerated}
use Rattle.judge.proofs.Pairs.{in_up_to}

module _ {X : Type 0} where
  pub in_left : (x : X) (xs ys : List X) → In x xs → In x (xs ++ ys)
  in_left x [] ys h = absurd h
  in_left x (y ∷ xs) ys (inl e) = inl e
  in_left x (y ∷ xs) ys (inr h) = inr (in_left x xs ys h)

  pub in_right : (x : X) (xs ys : List X) → In x ys → In x (xs ++ ys)
  in_right x [] ys h = h
  in_right x (y ∷ xs) ys h = inr (in_right x xs ys h)

  pub in_either : (x : X) (xs ys : List X) → In x (xs ++ ys) → In x xs ⊎ In x ys
  in_either x [] ys h = inr h
  in_either x (y ∷ xs) ys (inl e) = inl (inl e)
  in_either x (y ∷ xs) ys (inr h) = step (in_either x xs ys h)
    where
      step : In x xs ⊎ In x ys → In x (y ∷ xs) ⊎ In x ys
      step (inl a) = inl (inr a)
      step (inr b) = inr b

  pub all_in : (P : X → Type 0) (xs : List X) → AllByRecursion P xs → (x : X) → In x xs → P x
  all_in P [] a x h = absurd h
  all_in P (y ∷ ys) a x (inl e) = subst P (sym e) a.0
  all_in P (y ∷ ys) a x (inr h) = all_in P ys a.1 x h

pub in_map : {X Y : Type 0} (f : X → Y) (x : X) (xs : List X) → In x xs → In (f x) (map f xs)
in_map f x [] h = absurd h
in_map f x (y ∷ ys) (inl e) = inl (ap f e)
in_map f x (y ∷ ys) (inr h) = inr (in_map f x ys h)

pub from_map : {X Y : Type 0} (f : X → Y) (y : Y) (xs : List X) → In y (map f xs) → (x : X) × (y ≡ f x) × In x xs
from_map f y [] h = absurd h
from_map f y (x ∷ xs) (inl e) = (x, e, inl refl)
from_map f y (x ∷ xs) (inr h) = let t = from_map f y xs h in (t.0, t.1, inr t.2)

-- the list without c
pub in_without : (c d : ℕ) (xs : List ℕ) → (d ≡ c → ⊥) → In d xs → In d (without c xs)
in_without c d [] n h = h
in_without c d (x ∷ xs) n h = go (eqb c x) refl (in_without c d xs n) h
  where
    go : (b : Bool) → eqb c x ≡ b → (In d xs → In d (without c xs)) → In d (x ∷ xs) → In d (cond b xs (x ∷ without c xs))
    go true e f (inl m) = absurd (n (m ∙ sym (eqb-true c x e)))
    go true e f (inr m) = m
    go false e f (inl m) = inl m
    go false e f (inr m) = inr (f m)

pub from_without : (c d : ℕ) (xs : List ℕ) → In d (without c xs) → In d xs
from_without c d [] h = h
from_without c d (x ∷ xs) h = go (eqb c x) (from_without c d xs) h
  where
    go : (b : Bool) → (In d (without c xs) → In d xs) → In d (cond b xs (x ∷ without c xs)) → In d (x ∷ xs)
    go true f m = inr m
    go false f (inl m) = inl m
    go false f (inr m) = inr (f m)

pub apart_without : (c : ℕ) (xs : List ℕ) → Apart xs → Apart (without c xs)
apart_without c [] a = tt
apart_without c (x ∷ xs) a = go (eqb c x) (apart_without c xs a.1)
  where
    go : (b : Bool) → Apart (without c xs) → Apart (cond b xs (x ∷ without c xs))
    go true h = a.1
    go false h = (λ m. a.0 (from_without c x xs m), h)

pub gone : (c : ℕ) (xs : List ℕ) → Apart xs → In c (without c xs) → ⊥
gone c [] a h = h
gone c (x ∷ xs) a h = go (eqb c x) refl (gone c xs a.1) h
  where
    go : (b : Bool) → eqb c x ≡ b → (In c (without c xs) → ⊥) → In c (cond b xs (x ∷ without c xs)) → ⊥
    go true e f m = a.0 (subst (λ (y : ℕ). In y xs) (eqb-true c x e) m)
    go false e f (inl m) = eqb-false c x e m
    go false e f (inr m) = f m

-- what headed holds
pub in_headed : (f : List ℕ → List (List ℕ)) (xs ys : List ℕ) (y : ℕ) (l : List ℕ) → In y ys → In l (f (without y xs)) → In (y ∷ l) (headed f xs ys)
in_headed f xs [] y l h i = absurd h
in_headed f xs (z ∷ zs) y l (inl e) i =
    in_left (y ∷ l) (map (λ (q : List ℕ). z ∷ q) (f (without z xs))) (headed f xs zs)
    (subst (λ (w : ℕ). In (y ∷ l) (map (λ (q : List ℕ). w ∷ q) (f (without w xs)))) e (in_map (λ (q : List ℕ). y ∷ q) l (f (without y xs)) i))
in_headed f xs (z ∷ zs) y l (inr h) i =
    in_right (y ∷ l) (map (λ (q : List ℕ). z ∷ q) (f (without z xs))) (headed f xs zs) (in_headed f xs zs y l h i)

pub from_headed : (f : List ℕ → List (List ℕ)) (xs ys : List ℕ) (l : List ℕ) → In l (headed f xs ys) → (y : ℕ) × (q : List ℕ) × (l ≡ y ∷ q) × In y ys × In q (f (without y xs))
from_headed f xs [] l h = absurd h
from_headed f xs (z ∷ zs) l h = go (from_headed f xs zs l) (in_either l (map (λ (q : List ℕ). z ∷ q) (f (without z xs))) (headed f xs zs) h)
  where
    go : (In l (headed f xs zs) → (y : ℕ) × (q : List ℕ) × (l ≡ y ∷ q) × In y zs × In q (f (without y xs))) → In l (map (λ (q : List ℕ). z ∷ q) (f (without z xs))) ⊎ In l (headed f xs zs) → (y : ℕ) × (q : List ℕ) × (l ≡ y ∷ q) × In y (z ∷ zs) × In q (f (without y xs))
    go r (inl m) = let t = from_map (λ (q : List ℕ). z ∷ q) l (f (without z xs)) m in (z, t.0, t.1, inl refl, t.2)
    go r (inr m) = let t = r m in (t.0, t.1, t.2, inr t.3, t.4)

without_all : (c : ℕ) (xs : List ℕ) (l : List ℕ) → (In c l → ⊥) → AllByRecursion (λ d. In d xs) l → AllByRecursion (λ d. In d (without c xs)) l
without_all c xs [] n a = tt
without_all c xs (d ∷ ds) n a = (in_without c d xs (λ e. n (inl (sym e))) a.0, without_all c xs ds (λ m. n (inr m)) a.1)

all_without : (c : ℕ) (xs : List ℕ) (l : List ℕ) → AllByRecursion (λ d. In d (without c xs)) l → AllByRecursion (λ d. In d xs) l
all_without c xs [] a = tt
all_without c xs (d ∷ ds) a = (from_without c d xs a.0, all_without c xs ds a.1)

pub in_arrangements : (n : ℕ) (xs l : List ℕ) → length l ≡ n → AllByRecursion (λ c. In c xs) l → Apart l → In l (arrangements n xs)
in_arrangements zero xs [] e a d = inl refl
in_arrangements zero xs (c ∷ l) e a d = absurd (omega arith)
in_arrangements (suc n) xs [] e a d = absurd (omega arith)
in_arrangements (suc n) xs (c ∷ l) e a d =
    in_headed (arrangements n) xs xs c l a.0 (in_arrangements n (without c xs) l (omega arith) (without_all c xs l d.0 a.1) d.1)

pub from_arrangements : (n : ℕ) (xs l : List ℕ) → Apart xs → In l (arrangements n xs) → (length l ≡ n) × AllByRecursion (λ c. In c xs) l × Apart l
from_arrangements zero xs l d (inl e) = subst (λ q. (length q ≡ 0) × AllByRecursion (λ c. In c xs) q × Apart q) (sym e) (refl, tt, tt)
from_arrangements zero xs l d (inr h) = absurd h
from_arrangements (suc n) xs l d h =
    let t = from_headed (arrangements n) xs xs l h in
    let r = from_arrangements n (without t.0 xs) t.1 (apart_without t.0 xs d) t.4 in
    subst (λ q. (length q ≡ suc n) × AllByRecursion (λ c. In c xs) q × Apart q) (sym t.2)
    (ap suc r.0, (t.3, all_without t.0 xs t.1 r.1), (λ m. gone t.0 xs d (all_in (λ c. In c (without t.0 xs)) t.1 r.1 t.0 m), r.2))

pub from_counting : (a n c : ℕ) → In c (range_with_len a n) → (a ≤ c) × (c < a + n)
from_counting a zero c h = absurd h
from_counting a (suc n) c (inl e) = (omega arith, omega arith)
from_counting a (suc n) c (inr h) = let t = from_counting (a + 1) n c h in (omega arith, omega arith)

pub apart_counting : (a n : ℕ) → Apart (range_with_len a n)
apart_counting a zero = tt
apart_counting a (suc n) = (λ m. let t = from_counting (a + 1) n a m in omega arith, apart_counting (a + 1) n)

within_up_to : (s : ℕ) (l : List ℕ) → AllByRecursion (λ c. In c (up_to s)) l → AllByRecursion (Within s) l
within_up_to s [] a = tt
within_up_to s (c ∷ l) a = (let t = from_counting 1 s c a.0 in (t.0, omega arith), within_up_to s l a.1)

pub enumerated : Enumerated
enumerated s ns = (
  λ re. in_arrangements s (up_to s) ns re.0 (in_up_to s ns re.1) re.2,
  λ m. let t = from_arrangements s (up_to s) ns (apart_counting 1 s) m in (t.0, within_up_to s ns t.1, t.2),
)
