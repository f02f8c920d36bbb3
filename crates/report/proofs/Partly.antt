-- A report of the first events of a log.
use Rattle.std.proofs.Common.{◌≡◌, ℕ, ◌+◌, ◌≤◌, List, [], ◌++◌, map, length, take, drop, None, sym, ap, ◌∙◌, append_assoc, append-nil, arith, length-drop, drop-drop, Option}
use Rattle.std.specs.List.{AllByRecursion}
use Rattle.std.proofs.lemmas.List.{drop_all}
use Rattle.costs.specs.Kind.{Kind}
use Rattle.judge.specs.declared.verdict.Verdict.{Verdict}
use Rattle.watch.specs.Ledger.{Ledger}
use Rattle.watch.specs.Walking.{walk, after_feeds, first_outside}
use Rattle.watch.specs.declared.walk.Next.{Next}
use Rattle.report.specs.Outcomes.{outcomes_from, hits_in, tally}
use Rattle.report.specs.Reports.{hit_at, listed_hit, Numbered}
use Rattle.report.specs.declared.Hit.{Hit}
use Rattle.report.proofs.Steps.{sum3, later, walk_splits, walk_few}
use Rattle.report.proofs.Feeds.{feeds_join, inside_later}

-- the report after some events, and what is still to come of it
pub record Partly {C : Type 0} (k : Kind C) (l here : Ledger C) (log : List ℕ) (fed : ℕ) (found : List (Hit C)) (windows : ℕ × ℕ × ℕ) : Type 0 where
  pub hits : hits_in (outcomes_from k l 1 log) ≡ map hit_at found ++ hits_in (outcomes_from k here (fed + 1) (drop fed log))
  pub counts : tally (outcomes_from k l 1 log) ≡ sum3 windows (tally (outcomes_from k here (fed + 1) (drop fed log)))
  pub numbers : AllByRecursion (Numbered k l log) found
  pub ledger : here ≡ after_feeds l (take fed log)
  pub inside : first_outside l.table.size 1 log ≡ first_outside l.table.size (fed + 1) (drop fed log)
  pub few : windows.0 + windows.1 + windows.2 ≤ fed
  pub within : fed ≤ length log

sum3_assoc : (x y z : ℕ × ℕ × ℕ) → sum3 x (sum3 y z) ≡ sum3 (sum3 x y) z
sum3_assoc x y z =
    let a : x.0 + (y.0 + z.0) ≡ x.0 + y.0 + z.0 = omega arith in
    let b : x.1 + (y.1 + z.1) ≡ x.1 + y.1 + z.1 = omega arith in
    let c : x.2 + (y.2 + z.2) ≡ x.2 + y.2 + z.2 = omega arith in
    λ i. (a i, b i, c i)

module _ {C : Type 0} {k : Kind C} {l here : Ledger C} {log : List ℕ} {fed : ℕ} {found : List (Hit C)} {windows : ℕ × ℕ × ℕ} (next : Ledger C) (found' : List (Hit C)) (partly : Partly k l here log fed found windows) (free : first_outside l.table.size (fed + 1) (drop fed log) ≡ None) where
  abbrev w : Next C
  w = walk k here (drop fed log)

  module _ (goes : next ≡ after_feeds here (take w.fed (drop fed log))) (adds : map hit_at found' ≡ map hit_at found ++ listed_hit (fed + w.fed) w.hit) (numbered : AllByRecursion (Numbered k l log) found') where
    same_later : later k here (drop fed log) fed w.fed ≡ outcomes_from k next (fed + w.fed + 1) (drop (fed + w.fed) log)
    same_later = λ i. outcomes_from k (sym goes i) (fed + w.fed + 1) (drop-drop w.fed fed log i)

    more-hits : hits_in (outcomes_from k l 1 log) ≡ map hit_at found' ++ hits_in (outcomes_from k next (fed + w.fed + 1) (drop (fed + w.fed) log))
    more-hits =
        partly.hits
        ∙ ap (λ (xs : List (ℕ × C)). map hit_at found ++ xs) (walk_splits k here (drop fed log) fed).hits
        ∙ sym (append_assoc (map hit_at found) (listed_hit (fed + w.fed) w.hit) (hits_in (later k here (drop fed log) fed w.fed)))
        ∙ (λ i. sym adds i ++ hits_in (same_later i))

    more-counts : tally (outcomes_from k l 1 log) ≡ sum3 (sum3 windows w.counts) (tally (outcomes_from k next (fed + w.fed + 1) (drop (fed + w.fed) log)))
    more-counts =
        partly.counts
        ∙ ap (sum3 windows) (walk_splits k here (drop fed log) fed).counts
        ∙ sum3_assoc windows w.counts (tally (later k here (drop fed log) fed w.fed))
        ∙ ap (λ (xs : List (ℕ × Option (Verdict C))). sum3 (sum3 windows w.counts) (tally xs)) same_later

    more_ledger : next ≡ after_feeds l (take (fed + w.fed) log)
    more_ledger = goes ∙ ap (λ (m : Ledger C). after_feeds m (take w.fed (drop fed log))) partly.ledger ∙ feeds_join l log fed w.fed

    more-inside : first_outside l.table.size 1 log ≡ first_outside l.table.size (fed + w.fed + 1) (drop (fed + w.fed) log)
    more-inside =
        let place : fed + 1 + w.fed ≡ fed + w.fed + 1 = omega arith in
        partly.inside ∙ free ∙ sym (inside_later l.table.size (fed + 1) (drop fed log) w.fed free)
        ∙ (λ i. first_outside l.table.size (place i) (drop-drop w.fed fed log i))

    pub partly_more : Partly k l next log (fed + w.fed) found' (sum3 windows w.counts)
    partly_more = record {
      hits = more-hits;
      counts = more-counts;
      numbers = numbered;
      ledger = more_ledger;
      inside = more-inside;
      few = omega (arith, partly.few, (walk_few k here (drop fed log)).windows);
      within = omega (arith, partly.within, (walk_few k here (drop fed log)).fed, length-drop fed log);
    }

-- a report of all events
module _ {C : Type 0} {k : Kind C} {l here : Ledger C} {log : List ℕ} {fed : ℕ} {found : List (Hit C)} {windows : ℕ × ℕ × ℕ} (partly : Partly k l here log fed found windows) (all : length log ≤ fed) where
  nothing_left : outcomes_from k here (fed + 1) (drop fed log) ≡ []
  nothing_left = ap (outcomes_from k here (fed + 1)) (drop_all fed log all)

  pub all_hits : map hit_at found ≡ hits_in (outcomes_from k l 1 log)
  all_hits =
      sym (partly.hits ∙ ap (λ (xs : List (ℕ × Option (Verdict C))). map hit_at found ++ hits_in xs) nothing_left ∙ append-nil (map hit_at found))

  pub all_counts : windows ≡ tally (outcomes_from k l 1 log)
  all_counts =
      let a : windows.0 ≡ windows.0 + 0 = omega arith in
      let b : windows.1 ≡ windows.1 + 0 = omega arith in
      let c : windows.2 ≡ windows.2 + 0 = omega arith in
      (λ i. (a i, b i, c i)) ∙ sym (partly.counts ∙ ap (λ (xs : List (ℕ × Option (Verdict C))). sum3 windows (tally xs)) nothing_left)

  pub all_inside : first_outside l.table.size 1 log ≡ None
  all_inside = partly.inside ∙ ap (first_outside l.table.size (fed + 1)) (drop_all fed log all)
