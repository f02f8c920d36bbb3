-- What a count and a number of a section lead to.
use Rattle.std.specs.Prelude.{ℕ, ◌-◌, ◌%◌, Bool, false, cond, ◌&&◌, Ok, Err, Result, ◌==◌, nat_le, nat_lt}
use Rattle.tables.specs.Limits.{max_size, max_places, max_delta}
use Rattle.tables.specs.Table.{within}
use Rattle.job.specs.Limits.{max_pin_numbers, max_log}
use Rattle.job.specs.Faults.{Finding, finding}
use Rattle.job.specs.Content.{Content, bounds_count, is_delta, with_bound, with_kind, with_size, add_pin, add_trace, add_event}
use Rattle.job.specs.Words.{coming}
use Rattle.job.specs.declared.accepted.Kind.{Kind}
use Rattle.job.specs.declared.expected.Section.{Section}
use Rattle.job.specs.declared.expected.Section.TheVariants.{Size, Bounds, Pins, Trace, Log}
use Rattle.job.specs.declared.expected.Expected.TheVariants.{PinNumber}
use Rattle.job.specs.States.{State, state}

-- the counts that a section may have, and the number of the fault where it has another
abbrev pub is_count : Section → Kind → ℕ → Bool
is_count Size kind n = n == 1
is_count Bounds kind n = n == bounds_count kind
is_count Pins kind n = cond (n % 2 == 0) (nat_le n max_pin_numbers) false
is_count Trace kind n = within max_places n
is_count Log kind n = nat_le n max_log

abbrev pub count_fault : Section → ℕ
count_fault Size = 4
count_fault Bounds = 4
count_fault Pins = 4
count_fault Trace = 7
count_fault Log = 4

abbrev pub count_step : Section → Content → ℕ → ℕ → Result State Finding
count_step section c n place =
    cond (is_count section c.kind n) (Ok (state (coming section n) c)) (Err (finding (count_fault section) place))

-- a number of a section that has so many after it
abbrev pub number_step : Section → ℕ → Content → ℕ → ℕ → Result State Finding
number_step Size after c n place = cond (within max_size n) (Ok (state (coming Size after) (with_size c n))) (Err (finding 6 place))
number_step Bounds after c n place =
    cond (is_delta c.kind after && nat_lt max_delta n) (Err (finding 8 place))
    (Ok (state (coming Bounds after) (with_kind c (with_bound c.kind after n))))
number_step Pins after c n place = Ok (state (PinNumber after n place) c)
number_step Trace after c n place = cond (within c.size n) (Ok (state (coming Trace after) (add_trace c n))) (Err (finding 7 place))
number_step Log after c n place = cond (within c.size n) (Ok (state (coming Log after) (add_event c n))) (Err (finding 5 place))

-- the second number of a pin whose event stands at the place `first`, by what the pin call answers
abbrev pub pin_step : ℕ → ℕ → ℕ → Content → ℕ → Result (Unit {0}) ℕ → Result State Finding
pin_step after event first c n (Ok u) = Ok (state (coming Pins (after - 1)) (add_pin c event n))
pin_step after event first c n (Err e) = Err (finding e first)
