-- The ledger: what stands of a watch, by the table and the bound at its opening and by the calls since.
use Rattle.std.specs.Prelude.{ℕ, Bool, cond, ◌&&◌, Ok, Err, Option, Result, nat_le}
use Rattle.costs.specs.Kind.{Kind}
use Rattle.tables.specs.Pins.{no_pins, pinned, pin_answer, after_pin, unpin_answer, after_unpin}
use Rattle.tables.specs.Table.{Table, take_answer, taken}

-- the table with its window, the pin of each event, and the bound
pub record Ledger (C : Type 0) : Type 0 where
  pub table : Table C
  pub pins : ℕ → Option ℕ
  pub bound : C

-- the pairs that stand: those of the pins over the table's pairing at its window
abbrev pub standing : {C : Type 0} → Ledger C → Table C
standing l = pinned l.table l.pins

-- the largest span of a bound
abbrev pub bound_limit : ℕ
bound_limit = 1000000

-- a bound that can stand: not below zero, and not of a larger span
abbrev pub is_bound : {C : Type 0} → Kind C → C → Bool
is_bound k bound = k.at_most k.zero bound && nat_le (k.span bound) bound_limit

-- the ledger of an opening: no event is pinned
abbrev pub opened : {C : Type 0} → Table C → C → Ledger C
opened t bound = record { table = t; pins = no_pins; bound = bound }

-- what opening answers: refused with 9 exactly for a bound that cannot stand
abbrev pub open_answer : {C : Type 0} → Kind C → Table C → C → Result (Ledger C) ℕ
open_answer k t bound = cond (is_bound k bound) (Ok (opened t bound)) (Err 9)

abbrev pub feed_answer : {C : Type 0} → Ledger C → ℕ → Result (Unit {0}) ℕ
feed_answer l e = take_answer l.table e

abbrev pub after_feed : {C : Type 0} → Ledger C → ℕ → Ledger C
after_feed l e = record { table = taken l.table e; pins = l.pins; bound = l.bound }

abbrev pub pinning_answer : {C : Type 0} → Ledger C → ℕ → ℕ → Result (Unit {0}) ℕ
pinning_answer l r c = pin_answer l.table.size l.pins r c

abbrev pub after_pinning : {C : Type 0} → Ledger C → ℕ → ℕ → Ledger C
after_pinning l r c = record { table = l.table; pins = after_pin l.table.size l.pins r c; bound = l.bound }

abbrev pub unpinning_answer : {C : Type 0} → Ledger C → ℕ → Result (Unit {0}) ℕ
unpinning_answer l r = unpin_answer l.table.size l.pins r

abbrev pub after_unpinning : {C : Type 0} → Ledger C → ℕ → Ledger C
after_unpinning l r = record { table = l.table; pins = after_unpin l.table.size l.pins r; bound = l.bound }

abbrev pub bound_answer : {C : Type 0} → Kind C → C → Result (Unit {0}) ℕ
bound_answer k bound = cond (is_bound k bound) (Ok tt) (Err 9)

abbrev pub after_bound : {C : Type 0} → Kind C → Ledger C → C → Ledger C
after_bound k l bound = record { table = l.table; pins = l.pins; bound = cond (is_bound k bound) bound l.bound }
