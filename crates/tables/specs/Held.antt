-- What a summing table holds: as many trace numbers as places, and events that are 1 to S.
use Rattle.std.specs.Prelude.{◌≡◌, ℕ, ◌-◌, ◌*◌, ◌<◌, ◌≤◌, true, [], ◌∷◌, ◌++◌, length, take, slice_index}
use Rattle.std.proofs.Common.{arith}
use Rattle.std.specs.List.{AllByRecursion}
use Rattle.std.proofs.ByRecursion.{All-from_get_or, All-get_or, All-push, All-drop}
use Rattle.std.proofs.lemmas.List.{get_or-take}
use Rattle.std.proofs.lemmas.Bool.Decides.{nat_tests}
use Rattle.costs.specs.Kind.{Kind, Laws}
use Rattle.tables.specs.Limits.{max_size, pair_limit}
use Rattle.tables.specs.Ring.{ring_events}
use Rattle.tables.specs.Summed.{summed_table}
use Rattle.tables.specs.Table.{Within, within, Spans, Sound, last}
use Rattle.tables.specs.declared.grade.Grade.{Grade}
use Rattle.tables.specs.declared.ring.Ring.{Ring}
use Rattle.tables.specs.declared.summed.Summed.{Summed}
use Rattle.tables.specs.Graded.{widen, graded_span}
use Rattle.tables.specs.Rings.{events_length}

pub few_events : (r : Ring) → length (ring_events r) ≤ r.places
few_events r = let n = events_length r.places r.slots r.start r.count in let held = r.counted in omega arith

module _ {P : Type 0} (t : Summed P) where
  pub trace_length : length t.trace.items ≡ t.window.places
  trace_length = t.whole

  pub few : length (ring_events t.window) ≤ length t.trace.items
  few = let e = few_events t.window in let n = trace_length in omega arith

  pub number_at : (j : ℕ) → j < t.window.places → slice_index (take t.window.places t.trace.items) j ≡ slice_index t.trace.items j
  number_at j h = get_or-take t.window.places t.trace.items j 0 h

  all_events : AllByRecursion (Within t.size) (ring_events t.window)
  all_events = All-from_get_or (Within t.size) (ring_events t.window) 0 (λ j h. t.events j 0 h)

  all_numbers : AllByRecursion (λ p. p ≤ max_size) t.trace.items
  all_numbers =
      All-from_get_or (λ p. p ≤ max_size) t.trace.items 0 (λ j h. let to = (t.traced j 0 h).1 in let top = t.sized.1 in omega arith)

  -- the events after one more, which is 1 to S
  pub events_kept : (r : Ring) (e : ℕ) → within t.size e ≡ true → ring_events r ≡ last t.window.places (ring_events t.window ++ (e ∷ [])) → (j : ℕ) → j < length (ring_events r) → Within t.size (slice_index (ring_events r) j)
  events_kept r e inside is j h =
      let own : Within t.size e = (grind (arith, nat_tests), grind (arith, nat_tests)) in
      let whole = ring_events t.window ++ (e ∷ []) in
      let all = All-drop (Within t.size) (length whole - t.window.places) whole (All-push (Within t.size) (ring_events t.window) e all_events own) in
      All-get_or (Within t.size) (ring_events r) j 0 h (rw (← is) at all)

  module _ {C : Type 0} (k : Kind C) (laws : Laws k) (prices : P → ℕ → ℕ → Grade C) (small : (s : P) (p c : ℕ) → p ≤ max_size → c ≤ max_size → Spans k max_size (prices s p c)) where
    pub summed_sound : Sound k (summed_table k prices t)
    summed_sound = record {
      size_from = t.sized.0;
      size_to = t.sized.1;
      places_from = rw t.whole t.window.placed.0;
      places_to = rw t.whole t.window.placed.1;
      held = record { few = few; events = all_events };
      spans = λ w win r c hr hc.
          let wide = t.window.placed.1 in
          let to : c ≤ max_size = omega arith in
          let whole = t.whole in
          let short = win.few in
          widen k laws (max_size * length w) pair_limit _ (omega arith)
          (graded_span k laws (prices t.pricing) r c (λ p h. small t.pricing p c h to) t.trace.items w (omega arith) all_numbers);
    }
