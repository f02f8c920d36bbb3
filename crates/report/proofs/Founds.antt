-- The lists after a walk that found a hit hold a least renumbering of its window.
use Rattle.std.proofs.Common.{◌≡◌, ℕ, suc, ◌+◌, List, [], ◌∷◌, take, Some, sym, subst, arith, None, Option}
use Rattle.costs.specs.Kind.{Kind}
use Rattle.judge.specs.Judging.{Lists, Found}
use Rattle.judge.specs.declared.verdict.Verdict.{Verdict}
use Rattle.judge.specs.declared.verdict.Verdict.TheVariants.{Within as Inside, Over, None as Never}
use Rattle.watch.specs.Ledger.{Ledger, standing, after_feed}
use Rattle.watch.specs.Walking.{outcome, onward, walk, after_feeds, LeftBy, EndsOr, Walked}
use Rattle.watch.specs.declared.walk.Next.{Next}
use Rattle.watch.proofs.Outcomes.{never}
use Rattle.report.specs.Reports.{Cheapest}

-- some lists before, and what the judge of the hit left
abbrev pub FoundAt : {C : Type 0} → Kind C → Ledger C → List ℕ → ℕ → C → Lists C → Type 0
FoundAt {C} k l es f c after = (before : Lists C) × Found k (standing (after_feeds l (take f es))) c before after

module _ {C : Type 0} (k : Kind C) (l : Ledger C) (e : ℕ) (es : List ℕ) (c : C) (after : Lists C) where
  later_found : (f : ℕ) → FoundAt k (after_feed l e) es f c after → FoundAt k l (e ∷ es) (f + 1) c after
  later_found f found =
      let grown : suc f ≡ f + 1 = omega arith in
      subst (λ (n : ℕ). FoundAt k l (e ∷ es) n c after) grown found

  -- by what the first event led to, with the walk over the rest
  found_by : (x : Option (Verdict C)) (w : Next C) (before between : Lists C) → LeftBy k (after_feed l e) x before between → EndsOr x (after ≡ between) (Walked k (after_feed l e) es between after) → (w.hit ≡ Some c → Walked k (after_feed l e) es between after → FoundAt k (after_feed l e) es w.fed c after) → (onward x w).hit ≡ Some c → FoundAt k l (e ∷ es) (onward x w).fed c after
  found_by None w before between left rest on hit = later_found w.fed (on hit rest)
  found_by (Some (Inside d)) w before between left rest on hit =
      let same : d ≡ c = cc in
      (before, subst (λ (x : C). Found k (standing (after_feed l e)) x before after) same (subst (λ (x : Lists C). Found k (standing (after_feed l e)) d before x) (sym rest) left))
  found_by (Some (Over d)) w before between left rest on hit = later_found w.fed (on hit rest)
  found_by (Some Never) w before between left rest on hit = later_found w.fed (on hit rest)

pub walk_found : {C : Type 0} (k : Kind C) (l : Ledger C) (es : List ℕ) (c : C) (before after : Lists C) → (walk k l es).hit ≡ Some c → Walked k l es before after → FoundAt k l es (walk k l es).fed c after
walk_found k l [] c before after hit walked = never cc
walk_found k l (e ∷ es) c before after hit walked =
    found_by k l e es c after (outcome k (after_feed l e)) (walk k (after_feed l e) es) before walked.0 walked.1 walked.2 (λ h w. walk_found k (after_feed l e) es c walked.0 after h w) hit

-- what of it a report keeps
pub found_cheapest : {C : Type 0} (k : Kind C) (l : Ledger C) (c : C) (before after : Lists C) → Found k (standing l) c before after → Cheapest k (standing l) c (take l.table.size after.numbers)
found_cheapest k l c before after found = record { renumbering = found.renumbering; is_allowed = found.is_allowed; costs = found.costs; least = found.least }
