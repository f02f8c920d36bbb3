-- The limits of a trace table.
use Rattle.std.specs.Prelude.{ℕ}

-- events and house numbers are 1 to the size, and the size is 1 to this
abbrev pub max_size : ℕ
max_size = 32

-- a trace has 1 to this many places
abbrev pub max_places : ℕ
max_places = 64

-- the largest delta of the tables that have one
abbrev pub max_delta : ℕ
max_delta = 31

-- the largest span of an open pair's cost
abbrev pub pair_limit : ℕ
pair_limit = 100000
