-- Marks for a set of events.
use Rattle.std.proofs.Common.{◌≡◌, ℕ, zero, suc, ◌+◌, ◌-◌, ◌/◌, ◌%◌, ◌^◌, ◌<◌, ◌≤◌, Bool, true, false, cond, eqb, ◌⊎◌, List, ◌∷◌, map, length, get_or, drop, set, filter, sym, refl, ap, ◌∙◌, subst, inl, inr, ◌++◌, arith}
use lib.Bits.{bit_and}
use Rattle.std.specs.List.{range_with_len}
use Rattle.std.proofs.lemmas.Nat.{and_mask}
use Rattle.std.proofs.lemmas.List.FromFn.{get_or-map-range_with_len}
use Rattle.std.proofs.lemmas.List.{get_or-set_same, get_or-set_other, get_or_append_left}
use Rattle.std.proofs.lemmas.Slice.{drop-append-drop}
use borrow.Author.Count.{below_more}
use Rattle.tables.specs.Table.{Within}
use Rattle.tables.specs.declared.grade.Grade.{Grade}
use Rattle.judge.specs.Renumbering.{up_to}
use Rattle.judge.specs.Allowed.{opens}
use Rattle.judge.specs.Marks.{is_marked, events_in, Short, Violator}
use Rattle.judge.specs.BitRows.{stands_in}
use Rattle.judge.specs.Marking.{Written}

-- tests that agree on the numbers counted keep the same of them
pub kept_same : (p q : ℕ → Bool) (a n : ℕ) → ((c : ℕ) → a ≤ c → c < a + n → p c ≡ q c) → filter p (range_with_len a n) ≡ filter q (range_with_len a n)
kept_same p q a zero f = refl
kept_same p q a (suc n) f =
    ap (λ b. cond b (a ∷ filter p (range_with_len (a + 1) n)) (filter p (range_with_len (a + 1) n))) (f a (omega arith) (omega arith))
    ∙ ap (λ l. cond (q a) (a ∷ l) l) (kept_same p q (a + 1) n (λ c h l. f c (omega arith) (omega arith)))

-- marks that tell the events of a set with too few open numbers
pub violator_of : {C : Type 0} (g : ℕ → ℕ → Grade C) (s : ℕ) (inside : ℕ → Bool) (marks : List ℕ) → ((r : ℕ) → Within s r → is_marked marks r ≡ inside r) → Short (opens g) s (events_in s inside) → Violator g s marks
violator_of g s inside marks same short =
    subst (Short (opens g) s) (sym (kept_same (is_marked marks) inside 1 s (λ c l h. same c (l, omega arith)))) short

mark : (ℕ → Bool) → ℕ → ℕ
mark p r = cond (p r) 1 0

mark_is : (b : Bool) → eqb (cond b 1 0) 1 ≡ b
mark_is true = refl
mark_is false = refl

pub marks_of : (ℕ → Bool) → ℕ → List ℕ
marks_of p s = map (mark p) (up_to s)

pub marks_are : (p : ℕ → Bool) (s r : ℕ) → Within s r → is_marked (marks_of p s) r ≡ p r
unfolding marks_of mark
marks_are p s r w = ap (λ (z : ℕ). eqb z 1) (get_or-map-range_with_len (mark p) 1 s (r - 1) r 0 (omega (arith, w)) (omega (arith, w))) ∙ mark_is (p r)

-- each place below n has the mark of its event
abbrev pub MarkedBelow : ℕ → ℕ → List ℕ → Type 0
MarkedBelow row n marks = (j : ℕ) → j < n → get_or marks j 0 ≡ cond (stands_in row (j + 1)) 1 0

-- a bit is the mark of its event
bit_mark : (n : ℕ) → n < 2 → n ≡ cond (eqb n 1) 1 0
bit_mark zero l = refl
bit_mark (suc zero) l = refl
bit_mark (suc (suc n)) l = absurd (omega arith)

-- one mark more
pub marked_more : (row i : ℕ) (marks : List ℕ) → i < length marks → MarkedBelow row i marks → MarkedBelow row (i + 1) (set marks i (bit_and (row / 2 ^ i) 1))
marked_more row i marks l below = below_more (λ j. get_or (set marks i (bit_and (row / 2 ^ i) 1)) j 0 ≡ cond (stands_in row (j + 1)) 1 0) i
    (λ j h. get_or-set_other marks i j (bit_and (row / 2 ^ i) 1) 0 (λ (same : j ≡ i). omega arith) ∙ below j h)
    (let back : i + 1 - 1 ≡ i = omega arith in
    get_or-set_same marks i (bit_and (row / 2 ^ i) 1) 0 l
    ∙ and_mask (row / 2 ^ i) 1
    ∙ bit_mark (row / 2 ^ i % 2) (omega arith)
    ∙ ap (λ (k : ℕ). cond (eqb (row / 2 ^ k % 2) 1) 1 0) (sym back))

-- the marks at the front of a list
pub written_front : (row s : ℕ) (before marks : List ℕ) → length marks ≡ s → MarkedBelow row s marks → Written row s before (marks ++ drop s before)
written_front row s before marks len below = record {
  marks = λ r w.
      (let back : r - 1 + 1 ≡ r = omega (arith, w) in
      get_or_append_left marks (drop s before) 0 (r - 1) (omega (arith, w, len)) ∙ below (r - 1) (omega (arith, w)) ∙ ap (λ (n : ℕ). cond (stands_in row n) 1 0) back);
  rest = drop-append-drop s before marks s (omega arith) len;
}

module _ (row s : ℕ) (before after : List ℕ) (w : Written row s before after) where
  -- the marks written tell the events of the set
  pub written_is : (r : ℕ) → Within s r → is_marked after r ≡ stands_in row r
  written_is r within = ap (λ (n : ℕ). eqb n 1) (w.marks r within) ∙ mark_is (stands_in row r)

  -- each mark written is 0 or 1
  pub written_bits : (j : ℕ) → j < s → (get_or after j 0 ≡ 0) ⊎ (get_or after j 0 ≡ 1)
  written_bits j l =
      let back : j + 1 - 1 ≡ j = omega arith in
      let here = ap (λ (k : ℕ). get_or after k 0) (sym back) ∙ w.marks (j + 1) (omega arith, omega arith) in
      either (stands_in row (j + 1)) here
    where
      either : (b : Bool) → get_or after j 0 ≡ cond b 1 0 → (get_or after j 0 ≡ 0) ⊎ (get_or after j 0 ≡ 1)
      either true e = inr e
      either false e = inl e
