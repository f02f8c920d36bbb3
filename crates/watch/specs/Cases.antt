-- Ten worked cases: small windows, and what the ledger says of each.
use Rattle.std.specs.Prelude.{◌≡◌, ℕ, true, List, [], ◌∷◌, map, None, Ok, Err, Option, Result}
use Rattle.std.specs.List.{AllByRecursion}
use Rattle.costs.specs.Kind.{Kind}
use Rattle.costs.specs.Lists.{In}
use Rattle.costs.specs.Pair.{pair_kind, both}
use Rattle.costs.specs.Plain.{plain_kind, plain_of}
use Rattle.costs.specs.declared.pair.Pair.{Pair}
use Rattle.costs.specs.declared.plain.Plain.{Plain}
use Rattle.tables.specs.Pricing.{mismatch, difference, mixed}
use Rattle.tables.specs.Summing.{summing}
use Rattle.tables.specs.Table.{pair_at}
use Rattle.tables.specs.declared.grade.Grade.{Grade}
use Rattle.judge.specs.Allowed.{allowed, cost}
use Rattle.judge.specs.Judging.{Lists, Room, verdict_told, judge_answer}
use Rattle.judge.specs.Marks.{Violator}
use Rattle.judge.specs.Renumbering.{Renumbering}
use Rattle.judge.specs.declared.verdict.Verdict.{Verdict}
use Rattle.judge.specs.declared.verdict.Verdict.TheVariants.{Within as Inside, Over, None as Never}
use Rattle.watch.specs.Calls.{step, steps, ledger_answer}
use Rattle.watch.specs.Ledger.{Ledger, standing, opened}
use Rattle.watch.specs.declared.call.Call.{Call}
use Rattle.watch.specs.declared.call.Call.TheVariants.{Feed, Pin, Unpin}

-- a watch over a new table: what a place costs, S, the trace and the bound
abbrev pub begun : {C : Type 0} → Kind C → (ℕ → ℕ → Grade C) → ℕ → List ℕ → C → Ledger C
begun k price size trace bound = opened (summing k price size trace []) bound

-- the ledger after these events are fed, one by one
abbrev pub fed : {C : Type 0} → Kind C → Ledger C → List ℕ → Ledger C
fed k l events = steps k l (map Feed events)

-- what the calls answer, each by the ledger that those before it leave
abbrev pub answers : {C : Type 0} → Kind C → Ledger C → List (Call C) → List (Result (Option (ℕ × List C)) ℕ)
answers k l [] = []
answers k l (call ∷ calls) = ledger_answer k l call ∷ answers k (step k l call) calls

-- a judge with any lists that are long enough answers this verdict
abbrev pub Says : {C : Type 0} → Kind C → Ledger C → Verdict C → Type 0
Says {C} k l v = (handed : Lists C) → Room l.table.size handed → judge_answer k (standing l) l.bound handed ≡ Ok (verdict_told v)

-- the numbers are an allowed renumbering of that cost
pub record Fit {C : Type 0} (k : Kind C) (l : Ledger C) (c : C) (numbers : List ℕ) : Type 0 where
  pub renumbering : Renumbering l.table.size numbers
  pub is_allowed : allowed (pair_at (standing l)) numbers ≡ true
  pub costs : cost k (pair_at (standing l)) numbers ≡ c

-- the allowed renumberings of that cost are those of the list and no others, so at the least cost a judge gives one of them
pub record AllFits {C : Type 0} (k : Kind C) (l : Ledger C) (c : C) (found : List (List ℕ)) : Type 0 where
  pub each : AllByRecursion (Fit k l c) found
  pub no_other : (numbers : List ℕ) → Fit k l c numbers → In numbers found

-- the marked events have too few open numbers
abbrev pub Blocks : {C : Type 0} → Ledger C → List ℕ → Type 0
Blocks l marks = Violator (pair_at (standing l)) l.table.size marks

-- the worked window, fed to a watch: its trace, its events, and the ledger by what a place costs and the bound
abbrev pub worked_trace : List ℕ
worked_trace = 2 ∷ 2 ∷ 1 ∷ 3 ∷ 4 ∷ 3 ∷ 4 ∷ 5 ∷ 2 ∷ 2 ∷ []

abbrev pub worked_events : List ℕ
worked_events = 3 ∷ 5 ∷ 3 ∷ 4 ∷ 1 ∷ 2 ∷ 1 ∷ 2 ∷ 5 ∷ 4 ∷ []

abbrev pub worked : {C : Type 0} → Kind C → (ℕ → ℕ → Grade C) → C → Ledger C
worked k price bound = fed k (begun k price 5 worked_trace bound) worked_events

-- the worked window by difference with a delta, by mismatch, and by mixed with delta 4, each with a bound
abbrev pub by_difference : ℕ → ℕ → Ledger Plain
by_difference delta bound = worked plain_kind (difference delta) (plain_of bound)

abbrev pub by_mismatch : ℕ → Ledger Plain
by_mismatch bound = worked plain_kind mismatch (plain_of bound)

abbrev pub plain_pairs : Kind (Pair Plain Plain)
plain_pairs = pair_kind plain_kind plain_kind

abbrev pub two_plain : ℕ → ℕ → Pair Plain Plain
two_plain a b = both (plain_of a) (plain_of b)

abbrev pub by_mixed : ℕ → ℕ → Ledger (Pair Plain Plain)
by_mixed a b = worked plain_pairs (mixed 4) (two_plain a b)

-- the worked window by difference at delta 1 and bound 6 with event 1 pinned to 4, and with that pin removed again
abbrev pub with_pin : Ledger Plain
with_pin = step plain_kind (by_difference 1 6) (Pin 1 4)

abbrev pub pin_removed : Ledger Plain
pin_removed = step plain_kind with_pin (Unpin 1)

-- four other windows by mismatch: six events at bound 4, one at 0, three at 1, and two at 0 with the events to feed
abbrev pub six_events : Ledger Plain
six_events =
    fed plain_kind (begun plain_kind mismatch 6 (1 ∷ 2 ∷ 1 ∷ 2 ∷ 1 ∷ 1 ∷ 2 ∷ 1 ∷ 1 ∷ []) (plain_of 4)) (3 ∷ 4 ∷ 3 ∷ 4 ∷ 4 ∷ 5 ∷ 6 ∷ 5 ∷ 5 ∷ [])

abbrev pub one_event : Ledger Plain
one_event = fed plain_kind (begun plain_kind mismatch 1 (1 ∷ []) (plain_of 0)) (1 ∷ [])

abbrev pub three_events : Ledger Plain
three_events = fed plain_kind (begun plain_kind mismatch 3 (1 ∷ 1 ∷ 2 ∷ []) (plain_of 1)) (3 ∷ 3 ∷ 3 ∷ [])

abbrev pub two_events : Ledger Plain
two_events = begun plain_kind mismatch 2 (1 ∷ 2 ∷ []) (plain_of 0)

abbrev pub two_feeds : List ℕ
two_feeds = 1 ∷ 3 ∷ 0 ∷ 2 ∷ []

-- The cases. A plain cost n is written plain_of n, and a pair (a, b) of them two-plain a b.
pub record WorkedCases : Type 0 where
  -- case 1, difference at delta 1, bound 6: within 6, by the numbers 5 4 1 3 2 alone
  pub one : Says plain_kind (by_difference 1 6) (Inside (plain_of 6))
  pub one_numbers : AllFits plain_kind (by_difference 1 6) (plain_of 6) ((5 ∷ 4 ∷ 1 ∷ 3 ∷ 2 ∷ []) ∷ [])
  -- case 2, case 1 with bound 5: over 6
  pub two : Says plain_kind (by_difference 1 5) (Over (plain_of 6))
  -- case 3, case 1 with delta 0: none, and event 2 alone is a right marked set
  pub three : Says plain_kind (by_difference 0 6) Never
  pub three_marks : Blocks (by_difference 0 6) (0 ∷ 1 ∷ 0 ∷ 0 ∷ 0 ∷ [])
  -- case 4, mismatch: with bound 3 within 3, by the numbers 4 5 1 3 2 alone, and with bound 2 over 3
  pub four : Says plain_kind (by_mismatch 3) (Inside (plain_of 3))
  pub four_numbers : AllFits plain_kind (by_mismatch 3) (plain_of 3) ((4 ∷ 5 ∷ 1 ∷ 3 ∷ 2 ∷ []) ∷ [])
  pub four_over : Says plain_kind (by_mismatch 2) (Over (plain_of 3))
  -- case 5, mixed at delta 4: the least cost is (3, 4), by the same numbers alone; over (3, 3), and within (4, 0)
  pub five : Says plain_pairs (by_mixed 3 3) (Over (two_plain 3 4))
  pub five_numbers : AllFits plain_pairs (by_mixed 3 3) (two_plain 3 4) ((4 ∷ 5 ∷ 1 ∷ 3 ∷ 2 ∷ []) ∷ [])
  pub five_within : Says plain_pairs (by_mixed 4 0) (Inside (two_plain 3 4))
  -- case 6, six events of which two do not occur: the least cost is 4, for example by the numbers 3 4 5 2 1 6
  pub six : Says plain_kind six_events (Inside (plain_of 4))
  pub six_numbers : Fit plain_kind six_events (plain_of 4) (3 ∷ 4 ∷ 5 ∷ 2 ∷ 1 ∷ 6 ∷ [])
  -- case 7, one event: within 0 with bound 0, by the number 1
  pub seven : Says plain_kind one_event (Inside (plain_of 0))
  pub seven_numbers : AllFits plain_kind one_event (plain_of 0) ((1 ∷ []) ∷ [])
  -- case 8, three events of which only event 3 occurs: the least cost is 1, event 3 has number 1, and the others have 2
  -- and 3 in either order
  pub eight : Says plain_kind three_events (Inside (plain_of 1))
  pub eight_numbers : AllFits plain_kind three_events (plain_of 1) ((2 ∷ 3 ∷ 1 ∷ []) ∷ (3 ∷ 2 ∷ 1 ∷ []) ∷ [])
  -- case 9, case 1 with event 1 pinned to 4: none, and events 1 and 2 are a right marked set; after unpin within 6
  pub nine_answers : answers plain_kind (by_difference 1 6) (Pin 1 4 ∷ Unpin 1 ∷ []) ≡ Ok None ∷ Ok None ∷ []
  pub nine : Says plain_kind with_pin Never
  pub nine_marks : Blocks with_pin (1 ∷ 1 ∷ 0 ∷ 0 ∷ 0 ∷ [])
  pub nine_unpinned : Says plain_kind pin_removed (Inside (plain_of 6))
  -- case 10, the trace 1 2 fed with 1, 3, 0, 2: the second and the third are refused with 5 and leave the window 1 2, so
  -- the least cost is 0, by the numbers 1 2 alone
  pub ten_answers : answers plain_kind two_events (map Feed two_feeds) ≡ Ok None ∷ Err 5 ∷ Err 5 ∷ Ok None ∷ []
  pub ten_window : (fed plain_kind two_events two_feeds).table.window ≡ 1 ∷ 2 ∷ []
  pub ten : Says plain_kind (fed plain_kind two_events two_feeds) (Inside (plain_of 0))
  pub ten_numbers : AllFits plain_kind (fed plain_kind two_events two_feeds) (plain_of 0) ((1 ∷ 2 ∷ []) ∷ [])
