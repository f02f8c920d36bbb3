-- Numbers in base ten.
use Rattle.std.specs.Prelude.{ℕ, ◌+◌, ◌-◌, ◌*◌, Bool, false, cond, List, [], ◌∷◌, length, Some, None, Option, ◌==◌, nat_le, nat_lt, slice_index}
use Rattle.job.specs.Limits.{max_number}

-- the number that digits write after the number so far
abbrev pub read_on : ℕ → List ℕ → ℕ
read_on n [] = n
read_on n (d ∷ ds) = read_on (n * 10 + (d - 48)) ds

-- a 0 in front that is not the whole number
abbrev pub needless_zero : List ℕ → Bool
needless_zero ds = cond (nat_lt 1 (length ds)) (slice_index ds 0 == 48) false

-- the number, none where it has a needless zero or is above the limit
abbrev pub numeral : List ℕ → Option ℕ
numeral ds = cond (needless_zero ds) None (cond (nat_le (read_on 0 ds) max_number) (Some (read_on 0 ds)) None)
