-- The five lists that a sheet holds.
use Rattle.std.specs.Prelude.{ℕ, ◌*◌, length, replicate, vec_items}
use Rattle.costs.specs.Kind.{Kind}
use Rattle.tables.specs.Limits.{max_size}
use Rattle.judge.specs.Judging.{Lists, lists}
use Rattle.judge.specs.declared.sheet.Sheet.{Sheet}

abbrev pub sheet_lists : {C : Type 0} → Sheet C → Lists C
sheet_lists s =
    lists (vec_items s.numbers) (vec_items s.event_prices) (vec_items s.number_prices) (vec_items s.marks) (vec_items s.work)

-- how long the five lists are
abbrev pub lengths : {C : Type 0} → Lists C → ℕ × ℕ × ℕ × ℕ × ℕ
lengths l = (length l.numbers, length l.event_prices, length l.number_prices, length l.marks, length l.work)

-- lists of zeros for a table of the largest size
abbrev pub blank : {C : Type 0} → Kind C → Lists C
blank k =
    lists (replicate max_size 0) (replicate max_size k.zero) (replicate max_size k.zero) (replicate max_size 0) (replicate (8 * max_size) k.zero)
