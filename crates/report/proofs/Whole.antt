-- What a report by feeding tells of the windows of the log.
use Rattle.std.proofs.Common.{◌≡◌, ℕ, ◌+◌, ◌-◌, ◌<◌, ◌≤◌, List, [], map, length, take, None, vec_items, sym, ap, ◌∙◌, subst, arith, Some, Option}
use lib.ListN.{length-map}
use Rattle.std.specs.List.{range_with_len}
use Rattle.std.proofs.lemmas.Simd.{map-map}
use Rattle.std.proofs.lemmas.Bool.{cond-false, le-ltb}
use Rattle.costs.specs.Kind.{Kind, Laws}
use Rattle.costs.specs.Lists.{In}
use Rattle.judge.specs.Judging.{Affordable}
use Rattle.judge.specs.declared.verdict.Verdict.{Verdict}
use Rattle.judge.specs.declared.verdict.Verdict.TheVariants.{Within as Inside}
use Rattle.judge.proofs.Listing.{all_in, in_map, from_map}
use Rattle.watch.specs.Ledger.{Ledger, standing}
use Rattle.watch.specs.Walking.{after_feeds, first_outside}
use Rattle.watch.proofs.Worked.{all_from}
use Rattle.report.specs.Outcomes.{outcomes_from, hits_in, tally}
use Rattle.report.specs.Reports.{hit_at, Cheapest, Numbered, Reported}
use Rattle.report.specs.Windows.{at_window, window_at, pairs_on, verdict_on, Full, full_windows, begin_of, begins, Rising, verdict_tally, AllWindows}
use Rattle.report.specs.declared.Hit.{Hit as OneHit}
use Rattle.report.specs.declared.Report.{Report}
use Rattle.report.proofs.Along.{along, in_hits, from_hits, hits_rise, counted_all, counted_hits}
use Rattle.report.proofs.Exactly.{inside_affordable, affordable_inside}
use Rattle.report.proofs.Fulls.{outcome_at, hit_is, tally_is, stands, outcomes_are}

module _ {C : Type 0} (k : Kind C) (l : Ledger C) (log : List ℕ) (empty : l.table.window ≡ []) (inside : first_outside l.table.size 1 log ≡ None) (laws : Laws k) (some : 1 ≤ l.table.places) (r : Report C) (reported : Reported k l log r) where
  abbrev m : ℕ
  m = l.table.places

  abbrev v : ℕ → Verdict C
  v = verdict_on k l log

  abbrev f : ℕ → Option (Verdict C)
  f = outcome_at k l log

  abbrev hits : List (OneHit C)
  hits = vec_items r.hits

  hits_are : map hit_at hits ≡ hits_in (along f 1 (length log))
  hits_are = reported.hits ∙ ap hits_in (outcomes_are k l log empty inside)

  rise : Rising (begins m r)
  rise =
      let begun : begins m r ≡ map (λ (y : ℕ × C). y.0 + 1 - m) (hits_in (along f 1 (length log))) =
      sym (map-map (λ (y : ℕ × C). y.0 + 1 - m) hit_at hits) ∙ ap (map (λ (y : ℕ × C). y.0 + 1 - m)) hits_are in
      subst Rising (sym begun) (hits_rise f m (λ q c h. (hit_is k l log q c h).0) 1 (length log))

  -- what a hit of the report is
  abbrev Stands : OneHit C → Type 0
  Stands h = (m ≤ h.end) × (h.end < 1 + length log) × (v (begin_of m h) ≡ Inside h.cost)

  hit_stands : (h : OneHit C) → In h hits → Stands h
  hit_stands h there =
      let t = from_hits f 1 (length log) (hit_at h) (subst (λ (ys : List (ℕ × C)). In (hit_at h) ys) hits_are (in_map hit_at h hits there)) in
      let at = hit_is k l log h.end h.cost t.2 in
      (at.0, t.1, at.1)

  hit_full : (q : ℕ) → m ≤ q → q < 1 + length log → Full m log (q + 1 - m)
  hit_full q low high = (omega arith, omega arith)

  found : (p : ℕ) → In p (begins m r) → Full m log p × Affordable k (pairs_on l log p) l.bound
  found p there =
      let t = from_map (begin_of m) p hits there in
      let at = hit_stands t.0 t.2 in
      subst (λ (q : ℕ). Full m log q × Affordable k (pairs_on l log q) l.bound) (sym t.1)
      (hit_full t.0.end at.0 at.1, inside_affordable k laws (pairs_on l log (begin_of m t.0)) l.bound t.0.cost at.2)

  begun_at : (p q : ℕ) (c : C) → q + 1 - m ≡ p → (h : OneHit C) → (q, c) ≡ hit_at h → In h hits → In p (begins m r)
  begun_at p q c back h same there =
      let end : q ≡ h.end = ap (λ (y : ℕ × C). y.0) same in
      let begun : begin_of m h ≡ p = ap (λ (x : ℕ). x + 1 - m) (sym end) ∙ back in
      subst (λ (x : ℕ). In x (begins m r)) begun (in_map (begin_of m) h hits there)

  reported_at : (p : ℕ) → Full m log p → (c : C) → v p ≡ Inside c → In p (begins m r)
  reported_at p full c is =
      let from = full.0 in
      let to = full.1 in
      let q = p + m - 1 in
      let back : q + 1 - m ≡ p = omega arith in
      let hit : f q ≡ Some (Inside c) = cond-false _ _ _ (le-ltb q m (omega arith)) ∙ ap (λ (x : ℕ). Some (v x)) back ∙ ap Some is in
      let there : In (q, c) (map hit_at hits) = subst (λ (ys : List (ℕ × C)). In (q, c) ys) (sym hits_are) (in_hits f 1 (length log) q c (omega arith) (omega arith) hit) in
      let t = from_map hit_at (q, c) hits there in
      begun_at p q c back t.0 t.1 t.2

  none_missing : (p : ℕ) → Full m log p → Affordable k (pairs_on l log p) l.bound → In p (begins m r)
  none_missing p full affordable =
      let at = affordable_inside k laws (pairs_on l log p) l.bound affordable in
      reported_at p full at.0 at.1

  -- the numbers at its window
  numbered : (h : OneHit C) → In h hits → Cheapest k (pairs_on l log (begin_of m h)) h.cost (vec_items h.numbers)
  numbered h there =
      let own : Numbered k l log h = all_in (Numbered k l log) hits reported.numbers h there in
      let at = hit_stands h there in
      let low = at.0 in
      let p = begin_of m h in
      let end : h.end ≡ p + m - 1 = omega arith in
      let led : after_feeds l (take h.end log) ≡ at_window l (window_at m log p) =
      ap (λ (i : ℕ). after_feeds l (take i log)) end ∙ stands k l log empty inside p (hit_full h.end at.0 at.1) in
      subst (λ (x : Ledger C). Cheapest k (standing x) h.cost (vec_items h.numbers)) led own

  counts_are : r.counts ≡ verdict_tally v (range_with_len 1 (full_windows m log))
  counts_are = reported.counts ∙ ap tally (outcomes_are k l log empty inside) ∙ tally_is k l log some

  within_are : r.counts.0 ≡ length hits
  within_are =
      ap (λ (n : ℕ × ℕ × ℕ). n.0) reported.counts
      ∙ counted_hits (outcomes_from k l 1 log)
      ∙ ap length (sym reported.hits)
      ∙ length-map hits hit_at

  pub all_windows : AllWindows k l log r
  all_windows = record {
    rising = rise;
    found = found;
    none_missing = none_missing;
    numbers = all_from (λ (h : OneHit C). Cheapest k (pairs_on l log (begin_of m h)) h.cost (vec_items h.numbers)) hits numbered;
    within = within_are;
    windows = ap (λ (n : ℕ × ℕ × ℕ). n.0 + n.1 + n.2) counts_are ∙ counted_all v 1 (full_windows m log);
    counts = counts_are;
  }
