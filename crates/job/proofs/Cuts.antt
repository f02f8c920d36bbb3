-- The runs of a text that is not cut inside a run are those of its two parts.
use Rattle.std.proofs.Common.{◌≡◌, ℕ, suc, ◌+◌, ◌<◌, ◌≤◌, Bool, true, false, cond, not, ◌⊎◌, List, [], ◌∷◌, ◌++◌, length, sym, refl, ap, ◌∙◌, inl, inr, arith}
use Rattle.std.specs.List.{AllByRecursion}
use Rattle.std.proofs.ByRecursion.{All-weaker}
use Rattle.std.proofs.lemmas.Bool.{cond-true}
use Rattle.job.specs.Runs.{Run, run_at, blank, front, runs_from, runs}
use Rattle.job.specs.Laws.{begins_blank, ends_blank, Parted}

-- after xs, begun inside a run or not, ys do not go on with a run
abbrev Whole : Bool → List ℕ → List ℕ → Type 0
Whole inside [] ys = (inside ≡ false) ⊎ (begins_blank ys ≡ true)
Whole inside (x ∷ xs) ys = Whole (not (blank x)) xs ys

whole_begins : (inside : Bool) (xs ys : List ℕ) → begins_blank ys ≡ true → Whole inside xs ys
whole_begins inside [] ys e = inr e
whole_begins inside (x ∷ xs) ys e = whole_begins (not (blank x)) xs ys e

whole_ends : (x : ℕ) (xs ys : List ℕ) → ends_blank (x ∷ xs) ≡ true → Whole (not (blank x)) xs ys
whole_ends x [] ys e = inl (ap not e)
whole_ends x (y ∷ xs) ys e = whole_ends y xs ys e

whole : (xs ys : List ℕ) → Parted xs ys → Whole false xs ys
whole xs ys (inr e) = whole_begins false xs ys e
whole [] ys (inl e) = inl refl
whole (x ∷ xs) ys (inl e) = whole_ends x xs ys e

front_none : (ys : List ℕ) → begins_blank ys ≡ true → front ys ≡ []
front_none [] e = refl
front_none (y ∷ ys) e = cond-true _ _ _ e

front_split_by : (x : ℕ) (xs ys : List ℕ) (b : Bool) → Whole (not b) xs ys → (Whole true xs ys → front (xs ++ ys) ≡ front xs) → cond b [] (x ∷ front (xs ++ ys)) ≡ cond b [] (x ∷ front xs)
front_split_by x xs ys true w go = refl
front_split_by x xs ys false w go = ap (λ (bs : List ℕ). x ∷ bs) (go w)

front_split : (xs ys : List ℕ) → Whole true xs ys → front (xs ++ ys) ≡ front xs
front_split [] ys (inl e) = cc
front_split [] ys (inr e) = front_none ys e
front_split (x ∷ xs) ys w = front_split_by x xs ys (blank x) w (front_split xs ys)

runs_begin : (inside : Bool) (place : ℕ) (ys : List ℕ) → begins_blank ys ≡ true → runs_from inside place ys ≡ runs_from false place ys
runs_begin inside place [] e = refl
runs_begin inside place (y ∷ ys) e = cond-true _ _ _ e ∙ sym (cond-true _ _ _ e)

runs_empty : (inside : Bool) (place : ℕ) (ys : List ℕ) → (inside ≡ false) ⊎ (begins_blank ys ≡ true) → runs_from inside place ys ≡ runs_from false place ys
runs_empty inside place ys (inl e) = ap (λ b. runs_from b place ys) e
runs_empty inside place ys (inr e) = runs_begin inside place ys e

-- one byte in front of the two parts
runs_more : (x place : ℕ) (xs ys : List ℕ) (late : List Run) (b inside : Bool) → Whole (not b) xs ys
    → ((i : Bool) → Whole i xs ys → runs_from i (place + 1) (xs ++ ys) ≡ runs_from i (place + 1) xs ++ late)
    → cond b (runs_from false (place + 1) (xs ++ ys)) (cond inside (runs_from true (place + 1) (xs ++ ys)) (run_at place (x ∷ front (xs ++ ys)) ∷ runs_from true (place + 1) (xs ++ ys)))
    ≡ cond b (runs_from false (place + 1) xs) (cond inside (runs_from true (place + 1) xs) (run_at place (x ∷ front xs) ∷ runs_from true (place + 1) xs)) ++ late
runs_more x place xs ys late true inside w go = go false w
runs_more x place xs ys late false true w go = go true w
runs_more x place xs ys late false false w go =
    ap (λ (bs : List ℕ). run_at place (x ∷ bs) ∷ runs_from true (place + 1) (xs ++ ys)) (front_split xs ys w)
    ∙ ap (λ (rs : List Run). run_at place (x ∷ front xs) ∷ rs) (go true w)

runs_split : (inside : Bool) (place : ℕ) (xs ys : List ℕ) → Whole inside xs ys → (n : ℕ) → n ≡ place + length xs → runs_from inside place (xs ++ ys) ≡ runs_from inside place xs ++ runs_from false n ys
runs_split inside place [] ys w n e = runs_empty inside place ys w ∙ ap (λ k. runs_from false k ys) (omega arith)
runs_split inside place (x ∷ xs) ys w n e =
    runs_more x place xs ys (runs_from false n ys) (blank x) inside w (λ i v. runs_split i (place + 1) xs ys v n (omega arith))

pub runs_parted : (front back : List ℕ) → Parted front back → runs (front ++ back) ≡ runs front ++ runs_from false (length front) back
runs_parted xs ys p = runs_split false 0 xs ys (whole xs ys p) (length xs) (omega arith)

-- where the runs lie
front_short_by : (b : ℕ) (bs : List ℕ) (t : Bool) → length (front bs) ≤ length bs → length (cond t [] (b ∷ front bs)) ≤ suc (length bs)
front_short_by b bs true h = omega arith
front_short_by b bs false h = omega arith

front_short : (bs : List ℕ) → length (front bs) ≤ length bs
front_short [] = omega arith
front_short (b ∷ bs) = front_short_by b bs (blank b) (front_short bs)

-- a run between two places
abbrev pub Lies : ℕ → ℕ → Run → Type 0
Lies low high r = (low ≤ r.place) × (r.place < high) × (r.place + length r.bytes ≤ high)

later : (place high : ℕ) (rs : List Run) → AllByRecursion (Lies (place + 1) high) rs → AllByRecursion (Lies place high) rs
later place high rs a = All-weaker (Lies (place + 1) high) (Lies place high) (λ r l. (omega (arith, l.0), l.1, l.2)) rs a

runs_lie_by : (b place : ℕ) (bs : List ℕ) (high : ℕ) (t inside : Bool) → place + suc (length bs) ≤ high → ((i : Bool) → AllByRecursion (Lies (place + 1) high) (runs_from i (place + 1) bs)) → AllByRecursion (Lies place high) (cond t (runs_from false (place + 1) bs) (cond inside (runs_from true (place + 1) bs) (run_at place (b ∷ front bs) ∷ runs_from true (place + 1) bs)))
runs_lie_by b place bs high true inside h go = later place high (runs_from false (place + 1) bs) (go false)
runs_lie_by b place bs high false true h go = later place high (runs_from true (place + 1) bs) (go true)
runs_lie_by b place bs high false false h go =
    let s = front_short bs in
    ((omega arith, omega arith, omega arith), later place high (runs_from true (place + 1) bs) (go true))

pub runs_lie : (inside : Bool) (place : ℕ) (bs : List ℕ) (high : ℕ) → place + length bs ≤ high → AllByRecursion (Lies place high) (runs_from inside place bs)
runs_lie inside place [] high h = tt
runs_lie inside place (b ∷ bs) high h = runs_lie_by b place bs high (blank b) inside h (λ i. runs_lie i (place + 1) bs high (omega arith))
