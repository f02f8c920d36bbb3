-- The number that digits write.
use Rattle.std.proofs.Common.{◌≡◌, ℕ, ◌+◌, ◌-◌, ◌*◌, ◌<◌, ◌≤◌, false, List, [], ◌∷◌, Some, None, Option, Bor, Iter, sym, ap, ◌∙◌, arith}
use Rattle.std.specs.List.{FoldsTo}
use Rattle.std.specs.Iterator.{Yields}
use Rattle.std.specs.Option.{MatchOption}
use Rattle.std.proofs.lemmas.Bool.{cond-true, cond-false, le-leb, lt-leb}
use Rattle.std.proofs.lemmas.Fn.{fronts}
use Rattle.std.proofs.lemmas.List.{nil_from_length}
use Rattle.job.specs.Limits.{max_number}
use Rattle.job.specs.Numerals.{read_on, needless_zero, numeral}

pub read_on_ge : (n : ℕ) (ds : List ℕ) → n ≤ read_on n ds
read_on_ge n [] = omega arith
read_on_ge n (d ∷ ds) = let h = read_on_ge (n * 10 + (d - 48)) ds in omega arith

pub numeral_large : (ds : List ℕ) → needless_zero ds ≡ false → max_number < read_on 0 ds → numeral ds ≡ None
numeral_large ds e l = cond-false _ _ _ e ∙ cond-false _ _ _ (lt-leb (read_on 0 ds) max_number l)

pub numeral_small : (ds : List ℕ) (n : ℕ) → needless_zero ds ≡ false → n ≤ max_number → n ≡ read_on 0 ds → numeral ds ≡ Some n
numeral_small ds n e l g = cond-false _ _ _ e ∙ cond-true _ _ _ (le-leb (read_on 0 ds) max_number (omega arith)) ∙ ap Some (sym g)

-- digits that a fold reads from a slice: `Turn` is a turn that goes on, and below `Stop` is said of the digit that stops it
module _ {P : Type 0} (total : P → ℕ) (Turn : P → Bor ℕ → P → Type 0) (one : (p : P) (d : Bor ℕ) (q : P) → Turn p d q → (total q ≡ total p * 10 + (d.now - 48)) × (total q ≤ max_number)) where
  reads : (ds : List (Bor ℕ)) (s t : Iter ℕ) (p q : P) → total p ≤ max_number → Yields fronts s ds t → FoldsTo Turn p ds q → (read_on (total p) s.rest.now ≡ read_on (total q) t.rest.now) × (total q ≤ max_number)
  reads [] s t p q small here turns = (ap (λ k. read_on (total p) k.rest.now) here ∙ ap (λ k. read_on (total k) t.rest.now) turns, omega (arith, ap total turns))
  reads (d ∷ ds) s t p q small here turns =
      let more = one p d turns.0 turns.1 in
      let rest = reads ds here.0 t turns.0 q more.1 here.2 turns.2 in
      (ap (read_on (total p)) here.1 ∙ ap (λ n. read_on n here.0.rest.now) (sym more.0) ∙ rest.0, rest.1)

  ends : (Stop : Bor ℕ → Type 0) (o : Option (Bor ℕ)) (t u : Iter ℕ) (q : P) (ds : List ℕ) (r : Option ℕ) → ((d : Bor ℕ) → Stop d → (max_number < total q * 10 + (d.now - 48)) × (r ≡ None)) → fronts t o u → total q ≤ max_number → MatchOption o (r ≡ Some (total q)) Stop → needless_zero ds ≡ false → read_on 0 ds ≡ read_on (total q) t.rest.now → r ≡ numeral ds
  ends Stop None t u q ds r stop next small last e h =
      let none : t.rest.now ≡ [] = nil_from_length t.rest.now next.0 in
      last ∙ sym (numeral_small ds (total q) e small (sym (h ∙ ap (read_on (total q)) none)))
  ends Stop (Some d) t u q ds r stop next small last e h =
      let large = stop d last in
      let ge = read_on_ge (total q * 10 + (d.now - 48)) u.rest.now in
      large.1 ∙ sym (numeral_large ds e (omega (arith, large.0, ge, h ∙ ap (read_on (total q)) next)))

  pub value_read : (Stop : Bor ℕ → Type 0) (ds : List (Bor ℕ)) (o : Option (Bor ℕ)) (s t u : Iter ℕ) (p q : P) (r : Option ℕ) → total p ≡ 0 → Yields fronts s ds t → fronts t o u → FoldsTo Turn p ds q → MatchOption o (r ≡ Some (total q)) Stop → needless_zero s.rest.now ≡ false → ((d : Bor ℕ) → Stop d → (max_number < total q * 10 + (d.now - 48)) × (r ≡ None)) → r ≡ numeral s.rest.now
  value_read Stop ds o s t u p q r zero here next turns last e stop =
      let read = reads ds s t p q (omega arith) here turns in
      ends Stop o t u q s.rest.now r stop next read.1 last e (ap (λ n. read_on n s.rest.now) (sym zero) ∙ read.0)
