-- What next answers once the position and the lists are found right.
use Rattle.std.proofs.Common.{◌≡◌, ℕ, ◌+◌, ◌-◌, ◌≤◌, Bool, true, false, cond, not, ◌&&◌, leb, List, [], ◌∷◌, length, Some, Option, position, option_map, sym, refl, ap, ◌∙◌, arith}
use Rattle.std.specs.List.{position_from}
use Rattle.std.proofs.lemmas.Iterator.Adapters.{position_from-zero}
use Rattle.std.proofs.lemmas.Bool.Decides.{nat_tests}
use Rattle.costs.specs.Kind.{Kind}
use Rattle.tables.specs.Table.{within}
use Rattle.judge.specs.Judging.{Lists, has_room}
use Rattle.watch.specs.Ledger.{Ledger}
use Rattle.watch.specs.Walking.{walk, log_from, first_outside, unless_outside, next_answer}

placed : (p n : ℕ) → 1 ≤ p → p - 1 ≤ n → (leb 1 p && leb p (n + 1)) ≡ true
placed p n from to = grind (arith, nat_tests)

-- the position is counted on from the list's first
outside_from : (s p i : ℕ) (es : List ℕ) → option_map (λ n. p + n) (position_from (λ e. not (within s e)) i es) ≡ first_outside s (p + i) es
outside_from s p i [] = refl
outside_from s p i (e ∷ es) =
    let place : p + (i + 1) ≡ p + i + 1 = omega arith in
    go (within s e) (outside_from s p (i + 1) es ∙ ap (λ (n : ℕ). first_outside s n es) place)
  where
    go : (b : Bool) → option_map (λ n. p + n) (position_from (λ x. not (within s x)) (i + 1) es) ≡ first_outside s (p + i + 1) es → option_map (λ n. p + n) (cond (not b) (Some i) (position_from (λ x. not (within s x)) (i + 1) es)) ≡ cond b (first_outside s (p + i + 1) es) (Some (p + i))
    go true next = next
    go false next = refl

pub outside_at : (s p : ℕ) (es : List ℕ) → option_map (λ n. p + n) (position (λ e. not (within s e)) es) ≡ first_outside s p es
outside_at s p es =
    let start : p + 0 ≡ p = omega arith in
    ap (option_map (λ n. p + n)) (position_from-zero (λ e. not (within s e)) es)
    ∙ outside_from s p 0 es
    ∙ ap (λ (n : ℕ). first_outside s n es) start

-- s and events are the size and the log from p on, and x tells the first event outside
pub answer_is : {C : Type 0} (k : Kind C) (l : Ledger C) (log : List ℕ) (p : ℕ) (before : Lists C) (s : ℕ) (events : List ℕ) (x : Option ℕ) → 1 ≤ p → p - 1 ≤ length log → s ≡ l.table.size → has_room s (length before.numbers) (length before.event_prices) (length before.number_prices) (length before.marks) (length before.work) ≡ true → events ≡ log_from p log → x ≡ first_outside s p events → next_answer k l log p before ≡ unless_outside x (walk k l (log_from p log))
answer_is k l log p before s events x from to sized room rest outside =
    let roomy : has_room l.table.size (length before.numbers) (length before.event_prices) (length before.number_prices) (length before.marks) (length before.work) ≡ true =
    ap (λ (n : ℕ). has_room n (length before.numbers) (length before.event_prices) (length before.number_prices) (length before.marks) (length before.work)) (sym sized) ∙ room in
    let first : first_outside l.table.size p (log_from p log) ≡ x = (λ i. first_outside (sym sized i) p (sym rest i)) ∙ sym outside in
    rw (placed p (length log) from to, roomy) (ap (λ (y : Option ℕ). unless_outside y (walk k l (log_from p log))) first)
