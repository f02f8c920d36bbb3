-- Lists that are long enough, by their lengths.
use Rattle.std.proofs.Common.{◌≡◌, ℕ, ◌+◌, ◌-◌, ◌≤◌, Bool, true, List, [], ◌∷◌, length, drop, Some, None, Ok, Err, Option, Result, sym, refl, ap, ◌∙◌, arith}
use Rattle.costs.specs.Kind.{Kind}
use Rattle.judge.specs.Judging.{Lists, has_room}
use Rattle.judge.specs.Sheets.{lengths}
use Rattle.watch.specs.Ledger.{Ledger}
use Rattle.watch.specs.Walking.{walk, log_from, first_outside, unless_outside, next_answer}
use Rattle.watch.specs.declared.walk.Next.{Next}
use Rattle.watch.proofs.Nexts.{answer_is}
use Rattle.watch.proofs.Outcomes.{never}

-- lists of these lengths have room for s events
abbrev pub room_for : ℕ → ℕ × ℕ × ℕ × ℕ × ℕ → Bool
room_for s n = has_room s n.0 n.1 n.2 n.3 n.4

-- what next answers after some events of a log, with lists that have room
module _ {C : Type 0} (k : Kind C) (l : Ledger C) (log : List ℕ) (fed s : ℕ) (before : Lists C) (within : fed ≤ length log) (sized : s ≡ l.table.size) (room : room_for s (lengths before) ≡ true) where
  rest : drop fed log ≡ log_from (fed + 1) log
  rest = let back : fed ≡ fed + 1 - 1 = omega arith in ap (λ (n : ℕ). drop n log) back

  pub next_is : next_answer k l log (fed + 1) before ≡ unless_outside (first_outside s (fed + 1) (drop fed log)) (walk k l (drop fed log))
  next_is =
      answer_is k l log (fed + 1) before s (drop fed log) (first_outside s (fed + 1) (drop fed log)) (omega arith) (omega arith) sized room rest refl
      ∙ ap (λ (es : List ℕ). unless_outside (first_outside s (fed + 1) (drop fed log)) (walk k l es)) (sym rest)

-- an answer of next that was accepted, or refused for an event
pub accepted : {C : Type 0} (x : Option ℕ) (n w : Next C) → ◌≡◌ {A = Result (Next C) (ℕ × List ℕ)} (Ok n) (unless_outside x w) → (x ≡ None) × (n ≡ w)
accepted None n w e = (refl, cc)
accepted (Some p) n w e = never cc

pub refused : {C : Type 0} (x : Option ℕ) (y : ℕ × List ℕ) (w : Next C) → ◌≡◌ {A = Result (Next C) (ℕ × List ℕ)} (Err y) (unless_outside x w) → (p : ℕ) × (x ≡ Some p) × (y ≡ (5, p ∷ []))
refused None y w e = never cc
refused (Some p) y w e = (p, refl, cc)
