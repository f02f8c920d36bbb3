-- The row of marked events, one number after another.
use Rattle.std.proofs.Common.{ℕ, ◌+◌, ◌^◌, get_or, None, sym, subst, inl, inr, arith}
use lib.Bits.{bit_or}
use Rattle.std.proofs.lemmas.Bool.{cases_eq}
use Rattle.judge.specs.BitRows.{Has}
use Rattle.judge.specs.declared.matching.Matching.{Matching}
use Rattle.judge.specs.Moves.{TriedBy, Marks}
use Rattle.judge.proofs.Bits.{power_has, power_only, or_left_has, or_right_has, or_has}
use Rattle.judge.proofs.Holders.{one_holder}

module _ (seats : Matching) (event : ℕ) where
  -- the event alone
  pub marks_none : Marks seats event 0 (2 ^ event)
  marks_none = record { root = power_has event; holder = λ e c l h. absurd (omega arith); only = λ e h. inl (power_only event e h) }

  -- a number that was not tried, or that nobody holds, marks nobody
  pub marks_skip : (n row : ℕ) → ((e : ℕ) → TriedBy seats e n → ⊥) → Marks seats event n row → Marks seats event (n + 1) row
  marks_skip n row none m = record {
    root = m.root;
    holder = λ e c l h. elim (cases_eq c n) [
      | inl same ↦ absurd (none e (subst (λ (k : ℕ). TriedBy seats e k) same h))
      | inr other ↦ m.holder e c (omega arith) h
    ];
    only = m.only;
  }

  -- the holder of a tried number is marked
  pub marks_more : (n row e : ℕ) → TriedBy seats e n → Marks seats event n row → Marks seats event (n + 1) (bit_or row (2 ^ e))
  marks_more n row e by m = record {
    root = or_left_has row (2 ^ e) event m.root;
    holder = λ d c l h. elim (cases_eq c n) [
      | inl same ↦ or_right_has row (2 ^ e) d (subst (λ (k : ℕ). Has (2 ^ e) k) (one_holder (get_or seats.holders n None) e d by.0 (subst (λ (k : ℕ). TriedBy seats d k) same h).0) (power_has e))
      | inr other ↦ or_left_has row (2 ^ e) d (m.holder d c (omega arith) h)
    ];
    only = λ d h. elim (or_has row (2 ^ e) d h) [
      | inl k ↦ m.only d k
      | inr k ↦ inr (n, subst (λ (x : ℕ). TriedBy seats x n) (sym (power_only e d k)) by)
    ];
  }
