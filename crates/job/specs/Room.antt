-- How many numbers of the sections pins, trace and log a reader may still take.
use Rattle.std.specs.Prelude.{ℕ, ◌+◌, cond, ◌==◌, nat_le, nat_lt}
use Rattle.tables.specs.Limits.{max_places}
use Rattle.job.specs.Limits.{max_pin_numbers, max_log}
use Rattle.job.specs.declared.expected.Section.{Section}
use Rattle.job.specs.declared.expected.Section.TheVariants.{Size, Bounds, Pins, Trace, Log}
use Rattle.job.specs.declared.expected.Expected.{Expected}
use Rattle.job.specs.declared.expected.Expected.TheVariants.{KindWord, Title, Count, Number, PinNumber, End}

-- the order of the sections
abbrev pub rank : Section → ℕ
rank Size = 0
rank Bounds = 1
rank Pins = 2
rank Trace = 3
rank Log = 4

-- of a section that has not begun, its limit; of one that has ended, none; of the one that is read, those to come
abbrev pub left_before : Section → ℕ → Section → ℕ
left_before own limit section = cond (nat_le (rank section) (rank own)) limit 0

abbrev pub left_within : Section → ℕ → Section → ℕ → ℕ
left_within own limit section after = cond (rank section == rank own) (after + 1) (cond (nat_lt (rank section) (rank own)) limit 0)

abbrev pub left : Section → ℕ → Expected → ℕ
left own limit KindWord = limit
left own limit (Title section) = left_before own limit section
left own limit (Count section) = left_before own limit section
left own limit (Number section after) = left_within own limit section after
left own limit (PinNumber after event first) = left_within own limit Pins after
left own limit End = 0

abbrev pub pins_left : Expected → ℕ
pins_left e = left Pins max_pin_numbers e

abbrev pub trace_left : Expected → ℕ
trace_left e = left Trace max_places e

abbrev pub log_left : Expected → ℕ
log_left e = left Log max_log e
