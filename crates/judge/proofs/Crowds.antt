-- A set of events to which only numbers held inside it are open has too few open numbers.
use Rattle.std.proofs.Common.{◌≡◌, ℕ, Bool, true, false, cond, ◌||◌, List, [], ◌∷◌, map, filter, sym, refl, ap, ◌∙◌, subst, inl, inr, arith}
use lib.ListN.{length-map}
use Rattle.std.specs.List.{AllByRecursion}
use Rattle.std.proofs.lemmas.Bool.{false≢true}
use Rattle.costs.specs.Lists.{In, Apart}
use Rattle.tables.specs.Table.{Within}
use Rattle.judge.specs.Renumbering.{up_to}
use Rattle.judge.specs.Marks.{events_in, open_to, open_numbers, Short}
use Rattle.costs.proofs.Choose.{pigeons}
use Rattle.judge.proofs.Pairs.{in_counting}
use Rattle.judge.proofs.Violators.{in_kept}
use Rattle.judge.proofs.Listing.{from_map, from_counting, apart_counting}

-- what a filter keeps
pub from_kept : {X : Type 0} (p : X → Bool) (x : X) (xs : List X) → In x (filter p xs) → In x xs × (p x ≡ true)
from_kept p x [] h = absurd h
from_kept p x (y ∷ ys) h = go (p y) refl (from_kept p x ys) h
  where
    go : (b : Bool) → p y ≡ b → (In x (filter p ys) → In x ys × (p x ≡ true)) → In x (cond b (y ∷ filter p ys) (filter p ys)) → In x (y ∷ ys) × (p x ≡ true)
    go true e f (inl m) = (inl m, ap p m ∙ e)
    go true e f (inr m) = let t = f m in (inr t.0, t.1)
    go false e f m = let t = f m in (inr t.0, t.1)

-- what it keeps has no two entries the same
pub apart_kept : {X : Type 0} (p : X → Bool) (xs : List X) → Apart xs → Apart (filter p xs)
apart_kept p [] a = tt
apart_kept p (y ∷ ys) a = go (p y) (apart_kept p ys a.1)
  where
    go : (b : Bool) → Apart (filter p ys) → Apart (cond b (y ∷ filter p ys) (filter p ys))
    go true h = (λ m. a.0 (from_kept p y ys m).0, h)
    go false h = h

-- a function that keeps the entries apart
pub apart_map : (f : ℕ → ℕ) (xs : List ℕ) → ((x y : ℕ) → In x xs → In y xs → f x ≡ f y → x ≡ y) → Apart xs → Apart (map f xs)
apart_map f [] i a = tt
apart_map f (x ∷ xs) i a = (
  λ m. let t = from_map f (f x) xs m in a.0 (subst (λ (z : ℕ). In z xs) (sym (i x t.0 (inl refl) (inr t.2) t.1)) t.2),
  apart_map f xs (λ y z p q e. i y z (inr p) (inr q) e) a.1,
)

-- what holds of each entry that a function makes
pub all_map : (P : ℕ → Type 0) (f : ℕ → ℕ) (xs : List ℕ) → ((x : ℕ) → In x xs → P (f x)) → AllByRecursion P (map f xs)
all_map P f [] g = tt
all_map P f (x ∷ xs) g = (g x (inl refl), all_map P f xs (λ y m. g y (inr m)))

-- an open number is open to one of the events
pub opener : (open_at : ℕ → ℕ → Bool) (c : ℕ) (rs : List ℕ) → open_to open_at rs c ≡ true → (r : ℕ) × In r rs × (open_at r c ≡ true)
opener open_at c [] e = absurd (false≢true e)
opener open_at c (r ∷ rs) e = go (open_at r c) refl (opener open_at c rs) e
  where
    go : (b : Bool) → open_at r c ≡ b → (open_to open_at rs c ≡ true → (q : ℕ) × In q rs × (open_at q c ≡ true)) → (b || open_to open_at rs c) ≡ true → (q : ℕ) × In q (r ∷ rs) × (open_at q c ≡ true)
    go true o f e' = (r, inl refl, o)
    go false o f e' = let t = f e' in (t.0, inr t.1, t.2)

-- the list of 1 to s has each of them
up_to_has : (s c : ℕ) → Within s c → In c (up_to s)
up_to_has s c w = in_counting 1 s c w.0 (omega (arith, w.1))

-- and no others
pub from_up_to : (s c : ℕ) → In c (up_to s) → Within s c
from_up_to s c m = let t = from_counting 1 s c m in (t.0, omega arith)

-- Only done numbers are open to the events inside. Each done number has a holder inside; no two have the same, and the root, which is inside, holds none.
module _ (open_at : ℕ → ℕ → Bool) (s root : ℕ) (root_in : Within s root) (inside done : ℕ → Bool) (holder : ℕ → ℕ) (root-inside : inside root ≡ true)
    (held : (c : ℕ) → Within s c → done c ≡ true → Within s (holder c) × (inside (holder c) ≡ true) × (holder c ≡ root → ⊥))
    (once : (c d : ℕ) → Within s c → Within s d → done c ≡ true → done d ≡ true → holder c ≡ holder d → c ≡ d)
    (closed : (r c : ℕ) → Within s r → Within s c → inside r ≡ true → open_at r c ≡ true → done c ≡ true) where
  -- an open number of the events inside is done
  is_done : (c : ℕ) → In c (open_numbers open_at s (events_in s inside)) → Within s c × (done c ≡ true)
  is_done c m =
      let a = from_kept (open_to open_at (events_in s inside)) c (up_to s) m in
      let b = opener open_at c (events_in s inside) a.1 in
      let d = from_kept inside b.0 (up_to s) b.1 in
      let w = from_up_to s c a.0 in
      (w, closed b.0 c (from_up_to s b.0 d.0) w d.1 b.2)

  -- the holders of those numbers and the root are all inside, and all different
  pub crowded : Short open_at s (events_in s inside)
  crowded =
      let numbers = open_numbers open_at s (events_in s inside) in
      let fact = λ (c : ℕ) (m : In c numbers). held c (is_done c m).0 (is_done c m).1 in
      let crowd = pigeons (root ∷ map holder numbers) (events_in s inside) (
        (λ m. let x = from_map holder root numbers m in (fact x.0 x.2).2 (sym x.1)),
        apart_map holder numbers (λ x y p q e. once x y (is_done x p).0 (is_done y q).0 (is_done x p).1 (is_done y q).1 e) (apart_kept (open_to open_at (events_in s inside)) (up_to s) (apart_counting 1 s)),
      ) (
        in_kept inside root (up_to s) root-inside (up_to_has s root root_in),
        all_map (λ i. In i (events_in s inside)) holder numbers (λ x p. in_kept inside (holder x) (up_to s) (fact x p).1 (up_to_has s (holder x) (fact x p).0)),
      ) in
      omega (arith, crowd, length-map numbers holder)
