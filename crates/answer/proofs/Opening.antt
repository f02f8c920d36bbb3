-- A job that was accepted: its table and its watch are not refused, and then stand for its ledger.
use Rattle.std.proofs.Common.{◌≡◌, ℕ, Bool, true, List, [], Ok, Err, Result, refl, ap, ◌∙◌, arith}
use Rattle.costs.specs.Kind.{Kind}
use Rattle.tables.specs.Summing.{summing, make_answer}
use Rattle.tables.specs.Table.{Table}
use Rattle.tables.specs.declared.grade.Grade.{Grade}
use Rattle.watch.specs.Ledger.{Ledger, is_bound, opened, open_answer}
use Rattle.job.specs.Content.{Content}
use Rattle.job.specs.Spelling.{Valid}
use Rattle.job.specs.declared.accepted.Pin.{Pin}
use Rattle.answer.specs.Answers.{with_pins, job_ledger}
use Rattle.answer.proofs.Facts.{size_fits, trace_fits}

pub same_ok : {X Y : Type 0} (x y : X) → ◌≡◌ {A = Result X Y} (Ok x) (Ok y) → x ≡ y
same_ok x y e = cc

not_both : {X Y : Type 0} (x : X) (y : Y) → ◌≡◌ {A = Result X Y} (Err y) (Ok x) → ⊥
not_both x y e = let z : ◌≡◌ {A = ℕ} 0 1 = cc in omega arith

module _ {C : Type 0} (k : Kind C) (price : ℕ → ℕ → Grade C) (bound : C) (c : Content) (valid : Valid c) (usable : Bool) (use-it : usable ≡ true) (trace : List ℕ) (traced : trace ≡ c.trace) where
  pub table_made : make_answer k price usable c.size trace ≡ Ok (summing k price c.size c.trace [])
  table_made = rw (traced, size_fits c valid, trace_fits c valid, use-it) refl

  pub table_not_refused : (n : ℕ) → Err n ≡ make_answer k price usable c.size trace → ⊥
  table_not_refused n e = not_both _ n (e ∙ table_made)

  module _ (stands : is_bound k bound ≡ true) (table : Table C) (start here : Ledger C) (pins : List Pin) (made : Ok table ≡ make_answer k price usable c.size trace) (opening : Ok start ≡ open_answer k table bound) (pinned : pins ≡ c.pins) (laid : here ≡ with_pins start pins) where
    begun : start ≡ opened table bound
    begun = same_ok start (opened table bound) (opening ∙ rw stands refl)

    pub ledger_stands : here ≡ job_ledger k price bound c
    ledger_stands = laid ∙ ap (with_pins start) pinned ∙ ap (λ (l : Ledger C). with_pins l c.pins) (begun ∙ ap (λ (t : Table C). opened t bound) (same_ok table _ (made ∙ table_made)))
