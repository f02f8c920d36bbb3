-- The events of a ring, when one more is pushed.
use Rattle.std.specs.Prelude.{◌≡◌, ℕ, ◌+◌, ◌-◌, ◌<◌, ◌≤◌, ◌≢◌, List, [], ◌∷◌, ◌++◌, length, get_or, drop, slice_index, slice_index_or, slice_set}
use Rattle.std.proofs.Common.{sym, ◌∙◌, ap, ⊎_elim, zero-add, arith, length-drop, get_or-set_same, get_or-set_other}
use Rattle.std.proofs.lemmas.List.FromFn.{length-map-range_with_len, get_or-map-range_with_len}
use Rattle.std.proofs.lemmas.List.{ext_get_or, get_or-drop, get_or_append_left, get_or_push, length_push}
use Rattle.std.proofs.lemmas.Bool.{cases_eq}
use Rattle.std.proofs.lemmas.Bool.Decides.{nat_tests}
use Rattle.tables.specs.Ring.{slot, events_from}
use Rattle.tables.specs.Table.{last}

pub events_length : (m : ℕ) (ring : List ℕ) (a n : ℕ) → length (events_from m ring a n) ≡ n
events_length m ring a n = length-map-range_with_len (λ j. slice_index ring (slot m a j)) 0 n

pub events_at : (m : ℕ) (ring : List ℕ) (a n k d : ℕ) → k < n → slice_index_or (events_from m ring a n) k d ≡ slice_index ring (slot m a k)
events_at m ring a n k d h = get_or-map-range_with_len (λ j. slice_index ring (slot m a j)) 0 n k k d h (zero-add k)

pub slot_below : (m a j : ℕ) → a < m → j ≤ m → slot m a j < m
slot_below m a j h k = grind (arith, nat_tests)

slot_apart : (m a i j : ℕ) → a < m → i < j → j < m → slot m a i ≢ slot m a j
slot_apart m a i j h k l e = grind (arith, nat_tests)

slot_round : (m a : ℕ) → a < m → slot m a m ≡ a
slot_round m a h = grind (arith, nat_tests)

-- the ring begins one place later
slot_next : (m a i : ℕ) → a < m → i + 1 < m → slot m (slot m a 1) i ≡ slot m a (i + 1)
slot_next m a i h k = grind (arith, nat_tests)

slot_last : (m a i : ℕ) → a < m → i + 1 ≡ m → slot m (slot m a 1) i ≡ a
slot_last m a i h k = grind (arith, nat_tests)

-- what a list holds at k after one more element
push_at : (xs : List ℕ) (e k : ℕ) → k < length xs → slice_index (xs ++ (e ∷ [])) k ≡ slice_index xs k
push_at xs e k h = get_or_append_left xs (e ∷ []) 0 k h

module _ (m : ℕ) (ring : List ℕ) (a e : ℕ) (room : m ≤ length ring) (begun : a < m) where
  -- with a place left
  module _ (n : ℕ) (left : n < m) where
    more-at : (k : ℕ) → k < n + 1 → slice_index (events_from m (slice_set ring (slot m a n) e) a (n + 1)) k ≡ slice_index (events_from m ring a n ++ (e ∷ [])) k
    more-at k h =
        events_at m (slice_set ring (slot m a n) e) a (n + 1) k 0 h
        ∙ ⊎_elim
        (λ same.
        let there : slot m a n < length ring = let b = slot_below m a n begun (omega arith) in omega arith in
        let new : get_or (slice_set ring (slot m a n) e) (slot m a k) 0 ≡ e = rw same (get_or-set_same ring (slot m a n) e 0 there) in
        let pushed : get_or (events_from m ring a n ++ (e ∷ [])) k 0 ≡ e = rw same (get_or_push (events_from m ring a n) e 0 n (events_length m ring a n)) in
        new ∙ sym pushed)
        (λ other.
        let h' : k < n = omega arith in
        let in-events : k < length (events_from m ring a n) = rw (events_length m ring a n) h' in
        get_or-set_other ring (slot m a n) (slot m a k) e 0 (slot_apart m a k n begun h' left)
        ∙ sym (events_at m ring a n k 0 h')
        ∙ sym (push_at (events_from m ring a n) e k in-events))
        (cases_eq k n)

    pub ring_more : events_from m (slice_set ring (slot m a n) e) a (n + 1) ≡ last m (events_from m ring a n ++ (e ∷ []))
    ring_more =
        let whole = events_from m ring a n ++ (e ∷ []) in
        let len : length whole ≡ n + 1 = length_push (events_from m ring a n) e ∙ ap (λ x. x + 1) (events_length m ring a n) in
        let none : length whole - m ≡ 0 = omega arith in
        ext_get_or 0 _ _ (events_length m (slice_set ring (slot m a n) e) a (n + 1) ∙ sym len) (λ k h. more-at k (rw (events_length m (slice_set ring (slot m a n) e) a (n + 1)) at h))
        ∙ ap (λ x. drop x whole) (sym none)

  -- with the ring full
  turn_at : (k : ℕ) → k < m → slice_index (events_from m (slice_set ring (slot m a m) e) (slot m a 1) m) k ≡ slice_index (drop 1 (events_from m ring a m ++ (e ∷ []))) k
  turn_at k h =
      let whole = events_from m ring a m ++ (e ∷ []) in
      events_at m (slice_set ring (slot m a m) e) (slot m a 1) m k 0 h
      ∙ ⊎_elim
      (λ same.
      let there : a < length ring = omega arith in
      let new : get_or (slice_set ring (slot m a m) e) (slot m (slot m a 1) k) 0 ≡ e = rw (slot_round m a begun, slot_last m a k begun same) (get_or-set_same ring a e 0 there) in
      new ∙ sym (get_or-drop 1 whole k 0 ∙ get_or_push (events_from m ring a m) e 0 (1 + k) (events_length m ring a m ∙ omega arith)))
      (λ other.
      let next : k + 1 < m = omega arith in
      let next' : 1 + k < m = omega arith in
      let in-events : 1 + k < length (events_from m ring a m) = rw (events_length m ring a m) next' in
      let apart : slot m a (k + 1) ≢ slot m a m = λ q. grind (arith, nat_tests) in
      let old : get_or (slice_set ring (slot m a m) e) (slot m (slot m a 1) k) 0 ≡ get_or ring (slot m a (k + 1)) 0 = rw (slot_next m a k begun next) (get_or-set_other ring (slot m a m) (slot m a (k + 1)) e 0 apart) in
      old
      ∙ ap (λ j. slice_index ring (slot m a j)) (omega arith)
      ∙ sym (events_at m ring a m (1 + k) 0 next')
      ∙ sym (get_or-drop 1 whole k 0 ∙ push_at (events_from m ring a m) e (1 + k) in-events))
      (cases_eq (k + 1) m)

  pub ring_turn : events_from m (slice_set ring (slot m a m) e) (slot m a 1) m ≡ last m (events_from m ring a m ++ (e ∷ []))
  ring_turn =
      let whole = events_from m ring a m ++ (e ∷ []) in
      let len : length whole ≡ m + 1 = length_push (events_from m ring a m) e ∙ ap (λ x. x + 1) (events_length m ring a m) in
      let one : length whole - m ≡ 1 = omega arith in
      let left : length (drop 1 whole) ≡ m = length-drop 1 whole ∙ omega arith in
      ext_get_or 0 _ _ (events_length m (slice_set ring (slot m a m) e) (slot m a 1) m ∙ sym left) (λ k h. turn_at k (rw (events_length m (slice_set ring (slot m a m) e) (slot m a 1) m) at h))
      ∙ ap (λ x. drop x whole) (sym one)

-- one event more at the place x after the last one
module _ (m : ℕ) (slots : List ℕ) (a e : ℕ) (room : m ≤ length slots) (begun : a < m) (n x : ℕ) (there : x ≡ slot m a n) where
  pub pushed : n < m → events_from m (slice_set slots x e) a (n + 1) ≡ last m (events_from m slots a n ++ (e ∷ []))
  pushed left = rw there (ring_more m slots a e room begun n left)

  -- .. and the oldest one gives way
  pub pushed_out : n ≡ m → (y : ℕ) → y ≡ slot m a 1 → events_from m (slice_set slots x e) y n ≡ last m (events_from m slots a n ++ (e ∷ []))
  pushed_out full y next = rw (there, next, full) (ring_turn m slots a e room begun)
