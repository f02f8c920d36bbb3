-- Feeding a log in two stretches.
use Rattle.std.proofs.Common.{◌≡◌, ℕ, zero, suc, ◌+◌, Bool, true, false, cond, List, [], ◌∷◌, take, drop, Some, None, sym, refl, ap, ◌∙◌, arith}
use Rattle.std.proofs.Math.Seq.{take-add}
use Rattle.std.proofs.lemmas.List.Sums.{fold-append}
use Rattle.tables.specs.Table.{within}
use Rattle.watch.specs.Ledger.{Ledger, after_feed}
use Rattle.watch.specs.Walking.{after_feeds, first_outside}
use Rattle.watch.proofs.Walks.{size_stays}
use Rattle.watch.proofs.Outcomes.{never}

pub feeds_join : {C : Type 0} (l : Ledger C) (log : List ℕ) (i f : ℕ) → after_feeds (after_feeds l (take i log)) (take f (drop i log)) ≡ after_feeds l (take (i + f) log)
feeds_join l log i f =
    sym (fold-append after_feed l (take i log) (take f (drop i log))) ∙ ap (after_feeds l) (sym (take-add i f log))

pub size_after : {C : Type 0} (l : Ledger C) (es : List ℕ) → (after_feeds l es).table.size ≡ l.table.size
size_after l [] = refl
size_after l (e ∷ es) = size_after (after_feed l e) es ∙ size_stays l e

-- where no event is outside, none is later on
pub inside_later : (s p : ℕ) (es : List ℕ) (f : ℕ) → first_outside s p es ≡ None → first_outside s (p + f) (drop f es) ≡ None
inside_later s p es zero h = ap (λ (n : ℕ). first_outside s n es) (let e : p + 0 ≡ p = omega arith in e) ∙ h
inside_later s p [] (suc f) h = refl
inside_later s p (e ∷ es) (suc f) h =
    let place : p + suc f ≡ p + 1 + f = omega arith in
    ap (λ (n : ℕ). first_outside s n (drop f es)) place ∙ inside_later s (p + 1) es f (go (within s e) h)
  where
    go : (b : Bool) → cond b (first_outside s (p + 1) es) (Some p) ≡ None → first_outside s (p + 1) es ≡ None
    go true h = h
    go false h = never cc
