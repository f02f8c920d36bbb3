-- The pairs of a renumbering.
use Rattle.std.proofs.Common.{◌≡◌, ℕ, zero, suc, ◌+◌, ◌<◌, ◌≤◌, true, ◌⊎◌, List, [], ◌∷◌, length, get_or, refl, ap, subst, inl, inr, arith}
use Rattle.std.specs.List.{range_with_len, AllByRecursion}
use Rattle.std.proofs.lemmas.Bool.{and_parts, false≢true, cases_eq}
use Rattle.std.proofs.ByRecursion.{All-weaker}
use Rattle.costs.specs.Kind.{Kind}
use Rattle.costs.specs.Lists.{In}
use Rattle.costs.specs.Sums.{sum_of, spans}
use Rattle.tables.specs.Table.{Within}
use Rattle.tables.specs.declared.grade.Grade.{Grade}
use Rattle.tables.specs.declared.grade.Grade.TheVariants.{Closed, Open}
use Rattle.judge.specs.Renumbering.{up_to, pairs_from}
use Rattle.judge.specs.Allowed.{is_open, all_open}

pub in_counting : (a n c : ℕ) → a ≤ c → c < a + n → In c (range_with_len a n)
in_counting a zero c h l = absurd (omega arith)
in_counting a (suc n) c h l = first-or (in_counting (a + 1) n c) (cases_eq c a)
  where
    first-or : (a + 1 ≤ c → c < a + 1 + n → In c (range_with_len (a + 1) n)) → (c ≡ a) ⊎ (c ≡ a → ⊥) → In c (range_with_len a (suc n))
    first-or f (inl e) = inl e
    first-or f (inr d) = inr (f (omega arith) (omega arith))

pub in_up_to : (s : ℕ) (ns : List ℕ) → AllByRecursion (Within s) ns → AllByRecursion (λ c. In c (up_to s)) ns
in_up_to s ns h = All-weaker (Within s) (λ c. In c (up_to s)) (λ c w. in_counting 1 s c w.0 (omega (arith, w.1))) ns h

-- by places
pub all_places : (P : ℕ → ℕ → Type 0) (ns : List ℕ) (r : ℕ) → ((i : ℕ) → i < length ns → P (r + i) (get_or ns i 0)) → AllByRecursion (λ (p : ℕ × ℕ). P p.0 p.1) (pairs_from r ns)
all_places P [] r f = tt
all_places P (c ∷ cs) r f = (
  subst (λ (a : ℕ). P a c) (omega arith) (f 0 (omega arith)),
  all_places P cs (r + 1) (λ i h. subst (λ (a : ℕ). P a (get_or cs i 0)) (omega arith) (f (suc i) (omega arith))),
)

module _ {C : Type 0} where
  pub opened : (x : Grade C) → is_open x ≡ true → (y : C) × (x ≡ Open y)
  opened Closed h = absurd (false≢true h)
  opened (Open y) h = (y, refl)

  -- what holds of each open pair holds of the pairs of an allowed renumbering
  pub all_pairs : (g : ℕ → ℕ → Grade C) (P : ℕ → ℕ → Type 0) (s : ℕ) → ((a b : ℕ) → Within s a → Within s b → (x : C) → g a b ≡ Open x → P a b) → (r : ℕ) (ns : List ℕ) → 1 ≤ r → r + length ns ≤ s + 1 → AllByRecursion (Within s) ns → all_open g (pairs_from r ns) ≡ true → AllByRecursion (λ (p : ℕ × ℕ). P p.0 p.1) (pairs_from r ns)
  all_pairs g P s f r [] l h w o = tt
  all_pairs g P s f r (c ∷ cs) l h w o =
      let both = and_parts (is_open (g r c)) (all_open g (pairs_from (r + 1) cs)) o in
      let x = opened (g r c) both.0 in
      (f r c (l, omega arith) w.0 x.0 x.1, all_pairs g P s f (r + 1) cs (omega arith) (omega arith) w.1 both.1)

  pub open_places : (g : ℕ → ℕ → Grade C) (ns : List ℕ) (r : ℕ) → all_open g (pairs_from r ns) ≡ true → (i : ℕ) → i < length ns → is_open (g (r + i) (get_or ns i 0)) ≡ true
  open_places g [] r o i h = absurd (omega arith)
  open_places g (c ∷ cs) r o zero h = subst (λ (a : ℕ). is_open (g a c) ≡ true) (omega arith) (and_parts (is_open (g r c)) (all_open g (pairs_from (r + 1) cs)) o).0
  open_places g (c ∷ cs) r o (suc i) h =
      subst (λ (a : ℕ). is_open (g a (get_or cs i 0)) ≡ true) (omega arith) (open_places g cs (r + 1) (and_parts (is_open (g r c)) (all_open g (pairs_from (r + 1) cs)) o).1 i (omega arith))

  module _ (k : Kind C) where
    pub firsts : (u : ℕ → C) (r : ℕ) (ns : List ℕ) → sum_of k (λ (p : ℕ × ℕ). u p.0) (pairs_from r ns) ≡ sum_of k u (range_with_len r (length ns))
    firsts u r [] = refl
    firsts u r (c ∷ cs) = ap (k.plus (u r)) (firsts u (r + 1) cs)

    pub seconds : (v : ℕ → C) (r : ℕ) (ns : List ℕ) → sum_of k (λ (p : ℕ × ℕ). v p.1) (pairs_from r ns) ≡ sum_of k v ns
    seconds v r [] = refl
    seconds v r (c ∷ cs) = ap (k.plus (v c)) (seconds v (r + 1) cs)

    pub spans_firsts : (u : ℕ → C) (r : ℕ) (ns : List ℕ) → spans k (λ (p : ℕ × ℕ). u p.0) (pairs_from r ns) ≡ spans k u (range_with_len r (length ns))
    spans_firsts u r [] = refl
    spans_firsts u r (c ∷ cs) = ap (λ (n : ℕ). k.span (u r) + n) (spans_firsts u (r + 1) cs)

    pub spans_seconds : (v : ℕ → C) (r : ℕ) (ns : List ℕ) → spans k (λ (p : ℕ × ℕ). v p.1) (pairs_from r ns) ≡ spans k v ns
    spans_seconds v r [] = refl
    spans_seconds v r (c ∷ cs) = ap (λ (n : ℕ). k.span (v c) + n) (spans_seconds v (r + 1) cs)

pub length_pairs : (r : ℕ) (ns : List ℕ) → length (pairs_from r ns) ≡ length ns
length_pairs r [] = refl
length_pairs r (c ∷ cs) = ap suc (length_pairs (r + 1) cs)
