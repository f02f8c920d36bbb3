-- What each event of a log leads to, when the window was empty before: nothing up to the first full window, and then the
-- verdict on the window that ends with it.
use Rattle.std.proofs.Common.{◌≡◌, ℕ, suc, ◌+◌, ◌-◌, ◌<◌, ◌≤◌, Bool, true, false, cond, ltb, List, [], length, take, None, sym, refl, ap, ◌∙◌, ⊎_elim, arith, Some, Option}
use Rattle.std.specs.List.{range_with_len}
use Rattle.std.proofs.ByRecursion.{All-take}
use Rattle.std.proofs.lemmas.List.{length-take-le}
use Rattle.std.proofs.lemmas.Bool.{cases_lt, cond-true, cond-false, lt-ltb, le-ltb, le-leb, lt-leb, ltb-false}
use Rattle.costs.specs.Kind.{Kind}
use Rattle.tables.specs.Table.{within, last}
use Rattle.judge.specs.declared.verdict.Verdict.{Verdict}
use Rattle.judge.specs.declared.verdict.Verdict.TheVariants.{Within as Inside}
use Rattle.watch.specs.Ledger.{Ledger}
use Rattle.watch.specs.Walking.{outcome, after_feeds, first_outside}
use Rattle.watch.proofs.Outcomes.{never}
use Rattle.report.specs.Outcomes.{outcomes_from, tally}
use Rattle.report.specs.Windows.{at_window, window_at, verdict_on, Full, full_windows, verdict_tally}
use Rattle.report.proofs.Along.{along, outcomes_along, tally_skips, tally_verdicts}
use Rattle.report.proofs.Lasts.{inside_all, last_length, fed_window, window_there, window_full}

-- the outcome at a place
abbrev pub outcome_at : {C : Type 0} → Kind C → Ledger C → List ℕ → ℕ → Option (Verdict C)
outcome_at k l log q = cond (ltb q l.table.places) None (Some (verdict_on k l log (q + 1 - l.table.places)))

module _ {C : Type 0} (k : Kind C) (l : Ledger C) (log : List ℕ) where
  abbrev m : ℕ
  m = l.table.places

  abbrev v : ℕ → Verdict C
  v = verdict_on k l log

  abbrev f : ℕ → Option (Verdict C)
  f = outcome_at k l log

  -- where a hit is
  hit_by : (b : Bool) (q : ℕ) (c : C) → ltb q m ≡ b → cond b None (Some (v (q + 1 - m))) ≡ Some (Inside c) → (m ≤ q) × (v (q + 1 - m) ≡ Inside c)
  hit_by true q c e h = never cc
  hit_by false q c e h = (ltb-false q m e, cc)

  pub hit_is : (q : ℕ) (c : C) → f q ≡ Some (Inside c) → (m ≤ q) × (v (q + 1 - m) ≡ Inside c)
  hit_is q c h = hit_by (ltb q m) q c refl h

  -- the counts: the places before the first full window count nothing
  quiet : (a : ℕ) → a < m → (q : ℕ) → 1 ≤ q → q < 1 + a → f q ≡ None
  quiet a few q low high = cond-true _ _ _ (lt-ltb q m (omega arith))

  verdicts_there : (i n : ℕ) → i ≡ m → (j : ℕ) → j < n → f (i + j) ≡ Some (v (1 + j))
  verdicts_there i n e j there =
      let back : i + j + 1 - m ≡ 1 + j = omega arith in
      cond-false _ _ _ (le-ltb (i + j) m (omega arith)) ∙ ap (λ (x : ℕ). Some (v x)) back

  pub tally_is : 1 ≤ m → tally (along f 1 (length log)) ≡ verdict_tally v (range_with_len 1 (full_windows m log))
  tally_is some =
      ⊎_elim
      (λ (few : length log < m).
      let all : length log ≡ 0 + length log = omega arith in
      let no : 0 ≡ full_windows m log = omega arith in
      ap (λ (n : ℕ). tally (along f 1 n)) all
      ∙ tally_skips f 1 0 (length log) (quiet (length log) few)
      ∙ ap (λ (n : ℕ). verdict_tally v (range_with_len 1 n)) no)
      (λ (enough : m ≤ length log).
      let all : length log ≡ full_windows m log + (m - 1) = omega arith in
      let start : 1 + (m - 1) ≡ m = omega arith in
      ap (λ (n : ℕ). tally (along f 1 n)) all
      ∙ tally_skips f 1 (full_windows m log) (m - 1) (quiet (m - 1) (omega arith))
      ∙ tally_verdicts f v (1 + (m - 1)) 1 (full_windows m log) (verdicts_there (1 + (m - 1)) (full_windows m log) start))
      (cases_lt (length log) m)

  module _ (empty : l.table.window ≡ []) (inside : first_outside l.table.size 1 log ≡ None) where
    fed-to : (i : ℕ) → after_feeds l (take i log) ≡ at_window l (last m (take i log))
    fed-to i = fed_window l empty (take i log) (All-take (λ (e : ℕ). within l.table.size e ≡ true) i log (inside_all l.table.size 1 log inside))

    short : (i : ℕ) → i ≤ length log → i < m → outcome k (after_feeds l (take i log)) ≡ None
    short i fits few =
        let long = length-take-le i log fits in
        let fewer : length (last m (take i log)) < m = omega (arith, long, last_length m (take i log)) in
        ap (outcome k) (fed-to i) ∙ cond-false _ _ _ (lt-leb m (length (last m (take i log))) fewer)

    -- after the events of a full window it is the window
    pub stands : (p : ℕ) → Full m log p → after_feeds l (take (p + m - 1) log) ≡ at_window l (window_at m log p)
    stands p full = fed-to (p + m - 1) ∙ ap (at_window l) (window_there m log p full)

    whole : (p : ℕ) → Full m log p → outcome k (after_feeds l (take (p + m - 1) log)) ≡ Some (v p)
    whole p full =
        let wide : m ≤ length (window_at m log p) = omega (arith, window_full m log p full) in
        ap (outcome k) (stands p full) ∙ cond-true _ _ _ (le-leb m (length (window_at m log p)) wide)

    each : (j : ℕ) → j < length log → outcome k (after_feeds l (take (suc j) log)) ≡ f (1 + j)
    each j there =
        ⊎_elim
        (λ (few : suc j < m). short (suc j) (omega arith) few ∙ sym (cond-true _ _ _ (lt-ltb (1 + j) m (omega arith))))
        (λ (enough : m ≤ suc j).
        let p = 1 + j + 1 - m in
        let same : suc j ≡ p + m - 1 = omega arith in
        ap (λ (i : ℕ). outcome k (after_feeds l (take i log))) same
        ∙ whole p (omega arith, omega arith)
        ∙ sym (cond-false _ _ _ (le-ltb (1 + j) m (omega arith))))
        (cases_lt (suc j) m)

    pub outcomes_are : outcomes_from k l 1 log ≡ along f 1 (length log)
    outcomes_are = outcomes_along k l f 1 log each
