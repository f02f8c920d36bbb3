-- A loop that writes one place after another.
use Rattle.std.proofs.Common.{◌≡◌, ℕ, ◌+◌, ◌-◌, ◌<◌, ◌≤◌, List, ◌++◌, length, get_or, set, drop, sym, ap, ◌∙◌, subst, inl, inr, arith}
use Rattle.std.proofs.lemmas.List.{get_or-set_same, get_or-set_other, get_or_append_left}
use Rattle.std.proofs.lemmas.Bool.{cases_eq}
use Rattle.tables.specs.Table.{Within}
use Rattle.judge.specs.Rows.{listed}

-- what holds of 1 to i, and of i + 1, holds of 1 to i + 1
pub within_more : (P : ℕ → Type 0) (i : ℕ) → ((r : ℕ) → Within i r → P r) → P (i + 1) → (r : ℕ) → Within (i + 1) r → P r
within_more P i below here r w = elim (cases_eq r (i + 1)) [
  | inl same ↦ subst P (sym same) here
  | inr other ↦ below r (omega (arith, w, other))
]

-- place i is that of i + 1
pub listed_next : {X : Type 0} (xs : List X) (d : X) (i : ℕ) → listed xs d (i + 1) ≡ get_or xs i d
listed_next xs d i = let at : i + 1 - 1 ≡ i = omega arith in ap (λ (z : ℕ). get_or xs z d) at

-- what is written at place i is that of i + 1, and what was written before stays
pub written_more : {X : Type 0} (P : ℕ → X → Type 0) (xs : List X) (i : ℕ) (d y : X) → i < length xs → ((r : ℕ) → Within i r → P r (listed xs d r)) → P (i + 1) y → (r : ℕ) → Within (i + 1) r → P r (listed (set xs i y) d r)
written_more P xs i d y h before here =
    within_more (λ r. P r (listed (set xs i y) d r)) i
    (λ r w. subst (P r) (sym (get_or-set_other xs i (r - 1) y d (λ (q : r - 1 ≡ i). omega (arith, w)))) (before r w))
    (subst (P (i + 1)) (sym (listed_next (set xs i y) d i ∙ get_or-set_same xs i y d h)) here)

-- what was written to the first s places, at the start of a longer list
pub written_front : {X : Type 0} (P : ℕ → X → Type 0) (s n : ℕ) (items old : List X) (d : X) → length items ≡ s → s ≤ n → ((r : ℕ) → Within n r → P r (listed items d r)) → (r : ℕ) → Within s r → P r (listed (items ++ drop s old) d r)
written_front P s n items old d long all f r w = subst (P r) (sym (get_or_append_left items (drop s old) d (r - 1) (omega (arith, w)))) (f r (omega (arith, w)))
