-- One turn from hit to hit.
use Rattle.std.proofs.Common.{◌≡◌, ℕ, ◌+◌, ◌-◌, ◌<◌, ◌≤◌, true, List, [], ◌∷◌, ◌++◌, map, length, take, drop, Some, None, Ok, Err, vec_items, Option, sym, refl, ap, ◌∙◌, subst, arith, length-drop}
use mathlib.Core.List.{map-append}
use Rattle.std.specs.List.{AllByRecursion}
use Rattle.std.proofs.ByRecursion.{All-append}
use Rattle.costs.specs.Kind.{Kind}
use Rattle.judge.specs.Judging.{Lists}
use Rattle.judge.specs.Sheets.{lengths}
use Rattle.watch.specs.Ledger.{Ledger, standing}
use Rattle.watch.specs.Walking.{walk, log_from, after_feeds, first_outside, next_answer, next_refusal, Walked}
use Rattle.watch.specs.declared.walk.Next.{Next}
use Rattle.watch.specs.declared.walk.NextRefusal.{NextRefusal}
use Rattle.watch.proofs.Outcomes.{never}
use Rattle.report.specs.Reports.{hit_at, listed_hit, Cheapest, Numbered, Kept, NotReported}
use Rattle.report.specs.declared.Hit.{Hit}
use Rattle.watch.specs.declared.failure.Failure.TheVariants.{Refused}
use Rattle.report.proofs.Feeds.{feeds_join, size_after}
use Rattle.report.proofs.Founds.{walk_found, found_cheapest}
use Rattle.report.proofs.Partly.{Partly, partly_more}
use Rattle.report.proofs.Rooms.{room_for, next_is, accepted, refused}
use Rattle.report.proofs.Steps.{sum3, walk_few, walk_feeds}

-- a hit that was kept has its numbers
new_numbered : {C : Type 0} (k : Kind C) (l : Ledger C) (log : List ℕ) (end : ℕ) (hit : Option C) (ns : List ℕ) (new : List (Hit C)) → map hit_at new ≡ listed_hit end hit → AllByRecursion (λ (h : Hit C). vec_items h.numbers ≡ ns) new → ((c : C) → hit ≡ Some c → Cheapest k (standing (after_feeds l (take end log))) c ns) → AllByRecursion (Numbered k l log) new
new_numbered k l log end hit ns [] places own cheapest = tt
new_numbered k l log end None ns (h ∷ hs) places own cheapest = never cc
new_numbered k l log end (Some c) ns (h ∷ g ∷ hs) places own cheapest = never cc
new_numbered {C} k l log end (Some c) ns (h ∷ []) places own cheapest =
    let pair : ◌≡◌ {A = ℕ × C} (h.end, h.cost) (end, c) = cc in
    let place : end ≡ h.end = sym (ap (λ p. p.0) pair) in
    let price : c ≡ h.cost = sym (ap (λ p. p.1) pair) in
    let there : Cheapest k (standing (after_feeds l (take h.end log))) c ns = subst (λ (n : ℕ). Cheapest k (standing (after_feeds l (take n log))) c ns) place (cheapest c refl) in
    let cost : Cheapest k (standing (after_feeds l (take h.end log))) h.cost ns = subst (λ (x : C). Cheapest k (standing (after_feeds l (take h.end log))) x ns) price there in
    (subst (λ (xs : List ℕ). Cheapest k (standing (after_feeds l (take h.end log))) h.cost xs) (sym own.0) cost, tt)

-- what a turn that is accepted tells
pub record Turned {C : Type 0} (k : Kind C) (l here : Ledger C) (log : List ℕ) (fed : ℕ) (n : Next C) : Type 0 where
  pub free : first_outside l.table.size (fed + 1) (drop fed log) ≡ None
  pub walk_is : n ≡ walk k here (drop fed log)
  pub windows : n.counts.0 + n.counts.1 + n.counts.2 ≤ n.fed
  pub fits : fed + n.fed ≤ length log
  pub feeds : fed < length log → 1 ≤ n.fed

module _ {C : Type 0} {k : Kind C} {l here : Ledger C} {log : List ℕ} {fed : ℕ} {found : List (Hit C)} {windows : ℕ × ℕ × ℕ} (before : Lists C) (partly : Partly k l here log fed found windows) where
  size_here : l.table.size ≡ here.table.size
  size_here = sym (ap (λ (m : Ledger C). m.table.size) partly.ledger ∙ size_after l (take fed log))

  module _ (room : room_for l.table.size (lengths before) ≡ true) where
    -- the turn is accepted
    turn : (n : Next C) → Ok n ≡ next_answer k here log (fed + 1) before → (first_outside l.table.size (fed + 1) (drop fed log) ≡ None) × (n ≡ walk k here (drop fed log))
    turn n e = accepted (first_outside l.table.size (fed + 1) (drop fed log)) n (walk k here (drop fed log)) (e ∙ next_is k here log fed l.table.size before partly.within size_here room)

    -- or refused
    pub no_turn : (e : NextRefusal) → Err (next_refusal e) ≡ next_answer k here log (fed + 1) before → NotReported l log (Refused e)
    no_turn e h =
        let away = refused (first_outside l.table.size (fed + 1) (drop fed log)) (next_refusal e) (walk k here (drop fed log)) (h ∙ next_is k here log fed l.table.size before partly.within size_here room) in
        (away.0, partly.inside ∙ away.1, away.2)

  module _ (n : Next C) (is : n ≡ walk k here (drop fed log)) where
    turn-windows : n.counts.0 + n.counts.1 + n.counts.2 ≤ n.fed
    turn-windows = subst (λ (w : Next C). w.counts.0 + w.counts.1 + w.counts.2 ≤ w.fed) (sym is) (walk_few k here (drop fed log)).windows

    turn-fits : fed + n.fed ≤ length log
    turn-fits =
        let few : n.fed ≤ length (drop fed log) = subst (λ (w : Next C). w.fed ≤ length (drop fed log)) (sym is) (walk_few k here (drop fed log)).fed in
        omega (arith, length-drop fed log, partly.within)

    turn-feeds : fed < length log → 1 ≤ n.fed
    turn-feeds more =
        let some : 0 < length (drop fed log) = omega (arith, length-drop fed log) in
        subst (λ (w : Next C). 1 ≤ w.fed) (sym is) (walk_feeds k here (drop fed log) some)

    turn_facts : first_outside l.table.size (fed + 1) (drop fed log) ≡ None → Turned k l here log fed n
    turn_facts free = record { free = free; walk_is = is; windows = turn-windows; fits = turn-fits; feeds = turn-feeds }

  pub turned : room_for l.table.size (lengths before) ≡ true → (n : Next C) → Ok n ≡ next_answer k here log (fed + 1) before → Turned k l here log fed n
  turned room n e = let at = turn room n e in turn_facts n at.1 at.0

  -- the report goes on
  abbrev w : Next C
  w = walk k here (drop fed log)

  rest : log_from (fed + 1) log ≡ drop fed log
  rest = let back : fed + 1 - 1 ≡ fed = omega arith in ap (λ (i : ℕ). drop i log) back

  abbrev after_w : Ledger C
  after_w = after_feeds here (take w.fed (drop fed log))

  joined : after_w ≡ after_feeds l (take (fed + w.fed) log)
  joined = ap (λ (m : Ledger C). after_feeds m (take w.fed (drop fed log))) partly.ledger ∙ feeds_join l log fed w.fed

  -- the numbers that the hit left
  cheapest_at : (after : Lists C) → Walked k here (drop fed log) before after → (c : C) → w.hit ≡ Some c → Cheapest k (standing (after_feeds l (take (fed + w.fed) log))) c (take l.table.size after.numbers)
  cheapest_at after walked c hit =
      let at = walk_found k here (drop fed log) c before after hit walked in
      let there : Cheapest k (standing after_w) c (take after_w.table.size after.numbers) = found_cheapest k after_w c at.0 after at.1 in
      let joint : Cheapest k (standing (after_feeds l (take (fed + w.fed) log))) c (take (after_feeds l (take (fed + w.fed) log)).table.size after.numbers) =
      subst (λ (m : Ledger C). Cheapest k (standing m) c (take m.table.size after.numbers)) joined there in
      subst (λ (s : ℕ). Cheapest k (standing (after_feeds l (take (fed + w.fed) log))) c (take s after.numbers)) (size_after l (take (fed + w.fed) log)) joint

  module _ (found' : List (Hit C)) (after : Lists C) (s : ℕ) (sized : s ≡ l.table.size) (free : first_outside l.table.size (fed + 1) (drop fed log) ≡ None) (next : Ledger C) where
    goes_on : next ≡ after_feeds here (take w.fed (log_from (fed + 1) log)) → Walked k here (log_from (fed + 1) log) before after → Kept (fed + w.fed) w.hit (take s after.numbers) found found' → Partly k l next log (fed + w.fed) found' (sum3 windows w.counts)
    goes_on fed-to walked kept =
        let led : next ≡ after_w = fed-to ∙ ap (λ (es : List ℕ). after_feeds here (take w.fed es)) rest in
        let walked_on : Walked k here (drop fed log) before after = subst (λ (es : List ℕ). Walked k here es before after) rest walked in
        let own : AllByRecursion (λ (h : Hit C). vec_items h.numbers ≡ take l.table.size after.numbers) kept.new =
        subst (λ (m : ℕ). AllByRecursion (λ (h : Hit C). vec_items h.numbers ≡ take m after.numbers) kept.new) sized kept.own in
        let new : AllByRecursion (Numbered k l log) kept.new = new_numbered k l log (fed + w.fed) w.hit (take l.table.size after.numbers) kept.new kept.places own (cheapest_at after walked_on) in
        let numbered : AllByRecursion (Numbered k l log) found' = subst (AllByRecursion (Numbered k l log)) (sym kept.added) (All-append (Numbered k l log) found kept.new partly.numbers new) in
        let adds : map hit_at found' ≡ map hit_at found ++ listed_hit (fed + w.fed) w.hit =
        ap (map hit_at) kept.added ∙ map-append hit_at found kept.new ∙ ap (λ (xs : List (ℕ × C)). map hit_at found ++ xs) kept.places in
        partly_more next found' partly free led adds numbered

    pub turn_goes_on : (n : Next C) → n ≡ w → next ≡ after_feeds here (take n.fed (log_from (fed + 1) log)) → Walked k here (log_from (fed + 1) log) before after → Kept (fed + n.fed) n.hit (take s after.numbers) found found' → Partly k l next log (fed + n.fed) found' (sum3 windows n.counts)
    turn_goes_on n is fed-to walked kept =
        let there : Next C → Type 0 = λ x. Partly k l next log (fed + x.fed) found' (sum3 windows x.counts) in
        let led : next ≡ after_feeds here (take w.fed (log_from (fed + 1) log)) = subst (λ (x : Next C). next ≡ after_feeds here (take x.fed (log_from (fed + 1) log))) is fed-to in
        let held : Kept (fed + w.fed) w.hit (take s after.numbers) found found' = subst (λ (x : Next C). Kept (fed + x.fed) x.hit (take s after.numbers) found found') is kept in
        subst there (sym is) (goes_on led walked held)
