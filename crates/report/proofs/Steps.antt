-- What one walk to the next hit tells of all outcomes.
use Rattle.std.proofs.Common.{◌≡◌, ℕ, suc, ◌+◌, ◌<◌, ◌≤◌, List, [], ◌∷◌, ◌++◌, length, take, drop, Some, Option, refl, ap, ◌∙◌, arith, None}
use Rattle.costs.specs.Kind.{Kind}
use Rattle.judge.specs.declared.verdict.Verdict.{Verdict}
use Rattle.judge.specs.declared.verdict.Verdict.TheVariants.{Within as Inside, Over, None as Never}
use Rattle.watch.specs.Ledger.{Ledger, after_feed}
use Rattle.watch.specs.Walking.{outcome, onward, walk, after_feeds}
use Rattle.watch.specs.declared.walk.Next.{Next}
use Rattle.report.specs.Outcomes.{outcomes_from, hits_in, add_count, tally}
use Rattle.report.specs.Reports.{listed_hit}

-- the counts of two stretches together
abbrev pub sum3 : ℕ × ℕ × ℕ → ℕ × ℕ × ℕ → ℕ × ℕ × ℕ
sum3 a b = (a.0 + b.0, a.1 + b.1, a.2 + b.2)

-- the outcomes after f more events, when i were fed before
abbrev pub later : {C : Type 0} → Kind C → Ledger C → List ℕ → ℕ → ℕ → List (ℕ × Option (Verdict C))
later k l es i f = outcomes_from k (after_feeds l (take f es)) (i + f + 1) (drop f es)

-- hits and counts of a stretch are those of a walk and of what comes after it
pub record Splits {C : Type 0} (k : Kind C) (l : Ledger C) (es : List ℕ) (i f : ℕ) (hit : Option C) (windows : ℕ × ℕ × ℕ) (all : List (ℕ × Option (Verdict C))) : Type 0 where
  pub hits : hits_in all ≡ listed_hit (i + f) hit ++ hits_in (later k l es i f)
  pub counts : tally all ≡ sum3 windows (tally (later k l es i f))

module _ {C : Type 0} (k : Kind C) (l : Ledger C) (e : ℕ) (es : List ℕ) (i f : ℕ) where
  -- one event before a stretch
  same_later : later k (after_feed l e) es (i + 1) f ≡ later k l (e ∷ es) i (f + 1)
  same_later =
      let place : i + 1 + f + 1 ≡ i + suc f + 1 = omega arith in
      let grown : suc f ≡ f + 1 = omega arith in
      ap (λ (j : ℕ). outcomes_from k (after_feeds (after_feed l e) (take f es)) j (drop f es)) place ∙ ap (later k l (e ∷ es) i) grown

  same_place : i + 1 + f ≡ i + (f + 1)
  same_place = omega arith

  module _ (hit : Option C) (o n w : ℕ) (all : List (ℕ × Option (Verdict C))) (rest : Splits k (after_feed l e) es (i + 1) f hit (w, o, n) all) where
    hits-on : hits_in all ≡ listed_hit (i + (f + 1)) hit ++ hits_in (later k l (e ∷ es) i (f + 1))
    hits-on = rest.hits ∙ (λ j. listed_hit (same_place j) hit ++ hits_in (same_later j))

    counts-on : tally all ≡ sum3 (w, o, n) (tally (later k l (e ∷ es) i (f + 1)))
    counts-on = rest.counts ∙ ap (λ (xs : List (ℕ × Option (Verdict C))). sum3 (w, o, n) (tally xs)) same_later

    pub short_splits : Splits k l (e ∷ es) i (f + 1) hit (w, o, n) ((i + 1, None) ∷ all)
    short_splits = record { hits = hits-on; counts = counts-on }

    pub miss_splits : (c : C) → Splits k l (e ∷ es) i (f + 1) hit (w, o + 1, n) ((i + 1, Some (Over c)) ∷ all)
    miss_splits c =
        let more = tally (later k l (e ∷ es) i (f + 1)) in
        let over : o + more.1 + 1 ≡ o + 1 + more.1 = omega arith in
        record { hits = hits-on; counts = ap (add_count (Some (Over c))) counts-on ∙ (λ j. (w + more.0, over j, n + more.2)) }

    pub blocked_splits : Splits k l (e ∷ es) i (f + 1) hit (w, o, n + 1) ((i + 1, Some Never) ∷ all)
    blocked_splits =
        let more = tally (later k l (e ∷ es) i (f + 1)) in
        let none : n + more.2 + 1 ≡ n + 1 + more.2 = omega arith in
        record { hits = hits-on; counts = ap (add_count {C = C} (Some Never)) counts-on ∙ (λ j. (w + more.0, o + more.1, none j)) }

-- a hit ends the stretch
hit_splits : {C : Type 0} (k : Kind C) (l : Ledger C) (e : ℕ) (es : List ℕ) (i : ℕ) (c : C) → Splits k l (e ∷ es) i 1 (Some c) (1, 0, 0) ((i + 1, Some (Inside c)) ∷ outcomes_from k (after_feed l e) (i + 1 + 1) es)
hit_splits k l e es i c =
    let more = tally (outcomes_from k (after_feed l e) (i + 1 + 1) es) in
    let within : more.0 + 1 ≡ 1 + more.0 = omega arith in
    let over : more.1 ≡ 0 + more.1 = omega arith in
    let none : more.2 ≡ 0 + more.2 = omega arith in
    record { hits = refl; counts = λ j. (within j, over j, none j) }

by_outcome : {C : Type 0} (k : Kind C) (l : Ledger C) (e : ℕ) (es : List ℕ) (i : ℕ) (x : Option (Verdict C)) (w : Next C) → Splits k (after_feed l e) es (i + 1) w.fed w.hit w.counts (outcomes_from k (after_feed l e) (i + 1 + 1) es) → Splits k l (e ∷ es) i (onward x w).fed (onward x w).hit (onward x w).counts ((i + 1, x) ∷ outcomes_from k (after_feed l e) (i + 1 + 1) es)
by_outcome k l e es i None w rest = short_splits k l e es i w.fed w.hit w.counts.1 w.counts.2 w.counts.0 (outcomes_from k (after_feed l e) (i + 1 + 1) es) rest
by_outcome k l e es i (Some (Inside c)) w rest = hit_splits k l e es i c
by_outcome k l e es i (Some (Over c)) w rest = miss_splits k l e es i w.fed w.hit w.counts.1 w.counts.2 w.counts.0 (outcomes_from k (after_feed l e) (i + 1 + 1) es) rest c
by_outcome k l e es i (Some Never) w rest = blocked_splits k l e es i w.fed w.hit w.counts.1 w.counts.2 w.counts.0 (outcomes_from k (after_feed l e) (i + 1 + 1) es) rest

pub walk_splits : {C : Type 0} (k : Kind C) (l : Ledger C) (es : List ℕ) (i : ℕ) → Splits k l es i (walk k l es).fed (walk k l es).hit (walk k l es).counts (outcomes_from k l (i + 1) es)
walk_splits k l [] i = record { hits = refl; counts = refl }
walk_splits k l (e ∷ es) i = by_outcome k l e es i (outcome k (after_feed l e)) (walk k (after_feed l e) es) (walk_splits k (after_feed l e) es (i + 1))

-- a walk counts no more windows than it feeds events, and feeds no more than there are
pub record Few {C : Type 0} (n : Next C) (events : ℕ) : Type 0 where
  pub windows : n.counts.0 + n.counts.1 + n.counts.2 ≤ n.fed
  pub fed : n.fed ≤ events

few_by : {C : Type 0} (x : Option (Verdict C)) (w : Next C) (n : ℕ) → Few w n → Few (onward x w) (suc n)
few_by None w n few = record { windows = omega (arith, few.windows); fed = omega (arith, few.fed) }
few_by (Some (Inside c)) w n few = record { windows = omega arith; fed = omega arith }
few_by (Some (Over c)) w n few = record { windows = omega (arith, few.windows); fed = omega (arith, few.fed) }
few_by (Some Never) w n few = record { windows = omega (arith, few.windows); fed = omega (arith, few.fed) }

pub walk_few : {C : Type 0} (k : Kind C) (l : Ledger C) (es : List ℕ) → Few (walk k l es) (length es)
walk_few k l [] = record { windows = omega arith; fed = omega arith }
walk_few k l (e ∷ es) = few_by (outcome k (after_feed l e)) (walk k (after_feed l e) es) (length es) (walk_few k (after_feed l e) es)

some_by : {C : Type 0} (x : Option (Verdict C)) (w : Next C) → 1 ≤ (onward x w).fed
some_by None w = omega arith
some_by (Some (Inside c)) w = omega arith
some_by (Some (Over c)) w = omega arith
some_by (Some Never) w = omega arith

-- it feeds one at least where there is one
pub walk_feeds : {C : Type 0} (k : Kind C) (l : Ledger C) (es : List ℕ) → 0 < length es → 1 ≤ (walk k l es).fed
walk_feeds k l [] h = absurd (omega arith)
walk_feeds k l (e ∷ es) h = some_by (outcome k (after_feed l e)) (walk k (after_feed l e) es)
