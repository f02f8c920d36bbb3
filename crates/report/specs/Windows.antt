-- What a report says of the windows of a log, when the watch's own window was empty before it. Positions count from 1.
use Rattle.std.specs.Prelude.{◌≡◌, ℕ, ◌+◌, ◌-◌, ◌<◌, ◌≤◌, List, [], ◌∷◌, map, length, take, drop, vec_items, Some}
use Rattle.std.specs.List.{range_with_len, AllByRecursion}
use Rattle.costs.specs.Kind.{Kind}
use Rattle.costs.specs.Lists.{In}
use Rattle.tables.specs.Table.{Table, with_window, pair_at}
use Rattle.judge.specs.Judging.{Affordable}
use Rattle.judge.specs.Least.{judged}
use Rattle.judge.specs.declared.verdict.Verdict.{Verdict}
use Rattle.watch.specs.Ledger.{Ledger, standing}
use Rattle.report.specs.Outcomes.{add_count}
use Rattle.report.specs.Reports.{Cheapest}
use Rattle.report.specs.declared.Hit.{Hit}
use Rattle.report.specs.declared.Report.{Report}

-- the ledger with another window
abbrev pub at_window : {C : Type 0} → Ledger C → List ℕ → Ledger C
at_window l w = record { table = with_window l.table w; pins = l.pins; bound = l.bound }

-- the m events from position p on
abbrev pub window_at : ℕ → List ℕ → ℕ → List ℕ
window_at m log p = take m (drop (p - 1) log)

-- the pairs that stand at the window from position p on
abbrev pub pairs_on : {C : Type 0} → Ledger C → List ℕ → ℕ → Table C
pairs_on l log p = standing (at_window l (window_at l.table.places log p))

-- the verdict on that window, by trying all renumberings
abbrev pub verdict_on : {C : Type 0} → Kind C → Ledger C → List ℕ → ℕ → Verdict C
verdict_on k l log p = judged k (pair_at (pairs_on l log p)) l.table.size l.bound

-- the log has m events from position p on
abbrev pub Full : ℕ → List ℕ → ℕ → Type 0
Full m log p = (1 ≤ p) × (p + m ≤ length log + 1)

-- how many such positions there are
abbrev pub full_windows : ℕ → List ℕ → ℕ
full_windows m log = length log + 1 - m

-- where the window of a hit begins
abbrev pub begin_of : {C : Type 0} → ℕ → Hit C → ℕ
begin_of m h = h.end + 1 - m

-- where those of all hits do
abbrev pub begins : {C : Type 0} → ℕ → Report C → List ℕ
begins m r = map (begin_of m) (vec_items r.hits)

-- each entry is below all that come after it
abbrev pub Rising : List ℕ → Type 0
Rising [] = Unit {0}
Rising (p ∷ ps) = AllByRecursion (λ q. p < q) ps × Rising ps

-- how many of the verdicts at these positions are within the bound, over it, and none
abbrev pub verdict_tally : {C : Type 0} → (ℕ → Verdict C) → List ℕ → ℕ × ℕ × ℕ
verdict_tally v [] = (0, 0, 0)
verdict_tally v (p ∷ ps) = add_count (Some (v p)) (verdict_tally v ps)

-- the hits are exactly the full windows with an allowed renumbering within the bound, from left to right, each once and
-- with a cheapest renumbering of its own; and each full window is counted, once and by its own verdict, a hit as within
pub record AllWindows {C : Type 0} (k : Kind C) (l : Ledger C) (log : List ℕ) (r : Report C) : Type 0 where
  pub rising : Rising (begins l.table.places r)
  pub found : (p : ℕ) → In p (begins l.table.places r) → Full l.table.places log p × Affordable k (pairs_on l log p) l.bound
  pub none_missing : (p : ℕ) → Full l.table.places log p → Affordable k (pairs_on l log p) l.bound → In p (begins l.table.places r)
  pub numbers : AllByRecursion (λ (h : Hit C). Cheapest k (pairs_on l log (begin_of l.table.places h)) h.cost (vec_items h.numbers)) (vec_items r.hits)
  pub within : r.counts.0 ≡ length (vec_items r.hits)
  pub windows : r.counts.0 + r.counts.1 + r.counts.2 ≡ full_windows l.table.places log
  pub counts : r.counts ≡ verdict_tally (verdict_on k l log) (range_with_len 1 (full_windows l.table.places log))
