-- Walking a log from a position to the first hit: what is answered, the ledger after it, and what the lists then hold.
use Rattle.std.specs.Prelude.{◌≡◌, ℕ, ◌+◌, ◌-◌, cond, ◌&&◌, List, [], ◌∷◌, length, take, drop, fold, Some, None, Ok, Err, Option, Result, nat_le}
use Rattle.costs.specs.Kind.{Kind}
use Rattle.tables.specs.Table.{within, pair_at}
use Rattle.judge.specs.Judging.{Lists, has_room, Left}
use Rattle.judge.specs.Least.{judged}
use Rattle.judge.specs.declared.verdict.Verdict.{Verdict}
use Rattle.judge.specs.declared.verdict.Verdict.TheVariants.{Within as Inside, Over, None as Never}
use Rattle.watch.specs.Ledger.{Ledger, standing, after_feed}
use Rattle.watch.specs.declared.walk.Next.{Next}
use Rattle.watch.specs.declared.walk.NextRefusal.{NextRefusal}
use Rattle.watch.specs.declared.walk.NextRefusal.TheVariants.{Position, ListShort, Event}

-- what the window that stands leads to: nothing where it is not full, otherwise the verdict on it
abbrev pub outcome : {C : Type 0} → Kind C → Ledger C → Option (Verdict C)
outcome k l =
    cond (nat_le l.table.places (length l.table.window)) (Some (judged k (pair_at (standing l)) l.table.size l.bound)) None

-- an event and what it led to, and then the rest of the walk: a hit ends it, otherwise its window is counted
abbrev pub onward : {C : Type 0} → Option (Verdict C) → Next C → Next C
onward None n = record { fed = n.fed + 1; hit = n.hit; counts = n.counts }
onward (Some (Inside c)) n = record { fed = 1; hit = Some c; counts = (1, 0, 0) }
onward (Some (Over c)) n = record { fed = n.fed + 1; hit = n.hit; counts = (n.counts.0, n.counts.1 + 1, n.counts.2) }
onward (Some Never) n = record { fed = n.fed + 1; hit = n.hit; counts = (n.counts.0, n.counts.1, n.counts.2 + 1) }

-- feeding the events one by one up to the first hit
abbrev pub walk : {C : Type 0} → Kind C → Ledger C → List ℕ → Next C
walk k l [] = record { fed = 0; hit = None; counts = (0, 0, 0) }
walk k l (e ∷ es) = onward (outcome k (after_feed l e)) (walk k (after_feed l e) es)

-- the first position at which an event is 0 or above s, the list's first being p
abbrev pub first_outside : ℕ → ℕ → List ℕ → Option ℕ
first_outside s p [] = None
first_outside s p (e ∷ es) = cond (within s e) (first_outside s (p + 1) es) (Some p)

-- the walk, unless an event of the rest is refused: 5 with its position
abbrev pub unless_outside : {C : Type 0} → Option ℕ → Next C → Result (Next C) (ℕ × List ℕ)
unless_outside None n = Ok n
unless_outside (Some p) n = Err (5, p ∷ [])

-- the log from position p on
abbrev pub log_from : ℕ → List ℕ → List ℕ
log_from p log = drop (p - 1) log

-- what next answers: 16 where the position is 0 or above N + 1, then 15 where a list is too short, then 5 with the
-- position of an event that is outside 1 to S; otherwise the walk
abbrev pub next_answer : {C : Type 0} → Kind C → Ledger C → List ℕ → ℕ → Lists C → Result (Next C) (ℕ × List ℕ)
next_answer k l log p before =
    cond (nat_le 1 p && nat_le p (length log + 1))
    (cond (has_room l.table.size (length before.numbers) (length before.event_prices) (length before.number_prices) (length before.marks) (length before.work))
    (unless_outside (first_outside l.table.size p (log_from p log)) (walk k l (log_from p log)))
    (Err (15, [])))
    (Err (16, []))

-- a refusal as its number, and the position where it has one
abbrev pub next_refusal : NextRefusal → ℕ × List ℕ
next_refusal Position = (16, [])
next_refusal ListShort = (15, [])
next_refusal (Event p) = (5, p ∷ [])

abbrev pub next_told : {C : Type 0} → Result (Next C) NextRefusal → Result (Next C) (ℕ × List ℕ)
next_told (Ok n) = Ok n
next_told (Err e) = Err (next_refusal e)

-- the ledger after feeding a list of events
abbrev pub after_feeds : {C : Type 0} → Ledger C → List ℕ → Ledger C
after_feeds l es = fold after_feed l es

-- the ledger after next: as many events are fed as it says, none where it is refused
abbrev pub after_next : {C : Type 0} → Ledger C → List ℕ → ℕ → Result (Next C) NextRefusal → Ledger C
after_next l log p (Ok n) = after_feeds l (take n.fed (log_from p log))
after_next l log p (Err e) = l

-- what the lists hold after one event, by what it led to
abbrev pub LeftBy : {C : Type 0} → Kind C → Ledger C → Option (Verdict C) → Lists C → Lists C → Type 0
LeftBy k l None before after = after ≡ before
LeftBy k l (Some v) before after = Left k (standing l) before (Ok v) after

-- one fact where a hit ends the walk, another where it goes on
abbrev pub EndsOr : {C : Type 0} → Option (Verdict C) → Type 0 → Type 0 → Type 0
EndsOr None ends goes = goes
EndsOr (Some (Inside c)) ends goes = ends
EndsOr (Some (Over c)) ends goes = goes
EndsOr (Some Never) ends goes = goes

-- the lists hold what the judges of the walk left, one after another
abbrev pub Walked : {C : Type 0} → Kind C → Ledger C → List ℕ → Lists C → Lists C → Type 0
Walked k l [] before after = after ≡ before
Walked {C} k l (e ∷ es) before after =
    (between : Lists C)
    × LeftBy k (after_feed l e) (outcome k (after_feed l e)) before between
    × EndsOr (outcome k (after_feed l e)) (after ≡ between) (Walked k (after_feed l e) es between after)

-- the lists after next; a refusal alters none of them
abbrev pub NextLeft : {C : Type 0} → Kind C → Ledger C → List ℕ → ℕ → Lists C → Result (Next C) NextRefusal → Lists C → Type 0
NextLeft k l log p before (Ok n) after = Walked k l (log_from p log) before after
NextLeft k l log p before (Err e) after = after ≡ before
