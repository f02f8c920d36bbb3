-- The events that a ring buffer holds.
use Rattle.std.specs.Prelude.{ℕ, ◌+◌, ◌-◌, cond, List, map, nat_lt, slice_index}
use Rattle.std.specs.List.{range_with_len}
use Rattle.tables.specs.declared.ring.Ring.{Ring}

-- where event j stands in a ring of m places whose oldest event is at a
abbrev pub slot : ℕ → ℕ → ℕ → ℕ
slot m a j = cond (nat_lt (a + j) m) (a + j) (a + j - m)

-- n events, oldest first
abbrev pub events_from : ℕ → List ℕ → ℕ → ℕ → List ℕ
events_from m slots a n = map (λ j. slice_index slots (slot m a j)) (range_with_len 0 n)

-- the events of a ring, oldest first
abbrev pub ring_events : Ring → List ℕ
ring_events r = events_from r.places r.slots r.start r.count
