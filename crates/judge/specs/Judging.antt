-- What a judge promises: its answer, and what each of the five lists holds afterwards.
use Rattle.std.specs.Prelude.{◌≡◌, ℕ, ◌-◌, ◌*◌, ◌≤◌, Bool, true, false, cond, ◌&&◌, ◌⊎◌, List, [], ◌∷◌, length, take, drop, Ok, Err, Result, nat_le, slice_index, slice_index_or}
use Rattle.costs.specs.Kind.{Kind, AtMost}
use Rattle.costs.specs.Sums.{sum_of}
use Rattle.tables.specs.Table.{Table, Within, pair_at}
use Rattle.tables.specs.declared.refusal.Refusal.{Refusal}
use Rattle.judge.specs.Renumbering.{Renumbering, up_to}
use Rattle.judge.specs.Allowed.{allowed, cost}
use Rattle.judge.specs.Prices.{Priced, Under}
use Rattle.judge.specs.Marks.{Violator}
use Rattle.judge.specs.Least.{judged}
use Rattle.judge.specs.declared.verdict.Verdict.{Verdict}
use Rattle.judge.specs.declared.verdict.Verdict.TheVariants.{Within as Inside, Over, None as Never}

-- the five lists that a judge is handed
pub record Lists (C : Type 0) : Type 0 where
  pub numbers : List ℕ
  pub event_prices : List C
  pub number_prices : List C
  pub marks : List ℕ
  pub work : List C

abbrev pub lists : {C : Type 0} → List ℕ → List C → List C → List ℕ → List C → Lists C
lists ns us vs ms ws = record { numbers = ns; event_prices = us; number_prices = vs; marks = ms; work = ws }

-- a verdict as its number and its values: 0 within at a cost, 1 over at a cost, 2 none
abbrev pub verdict_told : {C : Type 0} → Verdict C → ℕ × List C
verdict_told (Inside c) = (0, c ∷ [])
verdict_told (Over c) = (1, c ∷ [])
verdict_told Never = (2, [])

-- lists of these lengths are long enough: S places in four of them and 8 x S in the work list
abbrev pub has_room : ℕ → ℕ → ℕ → ℕ → ℕ → ℕ → Bool
has_room s numbers event_prices number_prices marks work =
    nat_le s numbers && (nat_le s event_prices && (nat_le s number_prices && (nat_le s marks && nat_le (8 * s) work)))

-- the same of lists, as a fact
pub record Room {C : Type 0} (s : ℕ) (l : Lists C) : Type 0 where
  pub numbers : s ≤ length l.numbers
  pub event_prices : s ≤ length l.event_prices
  pub number_prices : s ≤ length l.number_prices
  pub marks : s ≤ length l.marks
  pub work : 8 * s ≤ length l.work

-- what a judge answers: 15 where a list is too short, then 14 where the window is not full, otherwise the verdict that
-- trying all renumberings gives
abbrev pub judge_answer : {C : Type 0} → Kind C → Table C → C → Lists C → Result (ℕ × List C) ℕ
judge_answer k t bound l =
    cond (has_room t.size (length l.numbers) (length l.event_prices) (length l.number_prices) (length l.marks) (length l.work))
    (cond (nat_le t.places (length t.window)) (Ok (verdict_told (judged k (pair_at t) t.size bound))) (Err 14))
    (Err 15)

-- the price at place i of a list
abbrev pub price_at : {C : Type 0} → Kind C → List C → ℕ → C
price_at k prices i = slice_index_or prices (i - 1) k.zero

-- after 'within' and 'over' at the cost c: a least allowed renumbering with prices that prove it least
pub record Found {C : Type 0} (k : Kind C) (t : Table C) (c : C) (before after : Lists C) : Type 0 where
  pub renumbering : Renumbering t.size (take t.size after.numbers)
  pub is_allowed : allowed (pair_at t) (take t.size after.numbers) ≡ true
  pub costs : cost k (pair_at t) (take t.size after.numbers) ≡ c
  pub least : (ms : List ℕ) → Renumbering t.size ms → allowed (pair_at t) ms ≡ true → AtMost k c (cost k (pair_at t) ms)
  pub event_spans : Priced k t.size (price_at k after.event_prices)
  pub number_spans : Priced k t.size (price_at k after.number_prices)
  pub under : Under k (pair_at t) t.size (price_at k after.event_prices) (price_at k after.number_prices)
  pub adds_up : k.plus (sum_of k (price_at k after.event_prices) (up_to t.size)) (sum_of k (price_at k after.number_prices) (up_to t.size)) ≡ c
  pub numbers_beyond : drop t.size after.numbers ≡ drop t.size before.numbers
  pub event_prices_beyond : drop t.size after.event_prices ≡ drop t.size before.event_prices
  pub number_prices_beyond : drop t.size after.number_prices ≡ drop t.size before.number_prices
  pub marks_same : after.marks ≡ before.marks

-- after 'none': marks of 0 and 1 that tell a set of events with too few open numbers
pub record Blocked {C : Type 0} (t : Table C) (before after : Lists C) : Type 0 where
  pub none_allowed : (ms : List ℕ) → Renumbering t.size ms → allowed (pair_at t) ms ≡ false
  pub bits : (r : ℕ) → Within t.size r → (slice_index after.marks (r - 1) ≡ 0) ⊎ (slice_index after.marks (r - 1) ≡ 1)
  pub short : Violator (pair_at t) t.size after.marks
  pub marks_beyond : drop t.size after.marks ≡ drop t.size before.marks
  pub numbers_same : after.numbers ≡ before.numbers
  pub event_prices_same : after.event_prices ≡ before.event_prices
  pub number_prices_same : after.number_prices ≡ before.number_prices

-- what the lists hold after an answer; a refusal alters none of them
abbrev pub Left : {C : Type 0} → Kind C → Table C → Lists C → Result (Verdict C) Refusal → Lists C → Type 0
Left k t before (Ok (Inside c)) after = Found k t c before after
Left k t before (Ok (Over c)) after = Found k t c before after
Left k t before (Ok Never) after = Blocked t before after
Left k t before (Err e) after = after ≡ before

-- the answer says 'within'
abbrev pub is_inside : {C : Type 0} → Verdict C → Bool
is_inside (Inside c) = true
is_inside (Over c) = false
is_inside Never = false

-- the answer says 'none'
abbrev pub is_never : {C : Type 0} → Verdict C → Bool
is_never (Inside c) = false
is_never (Over c) = false
is_never Never = true

-- some allowed renumbering costs at most the bound
abbrev pub Affordable : {C : Type 0} → Kind C → Table C → C → Type 0
Affordable k t bound = (ms : List ℕ) × Renumbering t.size ms × (allowed (pair_at t) ms ≡ true) × AtMost k (cost k (pair_at t) ms) bound

-- some renumbering is allowed
abbrev pub Possible : {C : Type 0} → Table C → Type 0
Possible t = (ms : List ℕ) × Renumbering t.size ms × (allowed (pair_at t) ms ≡ true)

-- the two exactness rules of a verdict
pub record Exact {C : Type 0} (k : Kind C) (t : Table C) (bound : C) (v : Verdict C) : Type 0 where
  pub within_only : is_inside v ≡ true → Affordable k t bound
  pub within_all : Affordable k t bound → is_inside v ≡ true
  pub none_only : is_never v ≡ true → Possible t → ⊥
  pub none_all : (Possible t → ⊥) → is_never v ≡ true
