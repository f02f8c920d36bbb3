-- The limits of a job text.
use Rattle.std.specs.Prelude.{ℕ}

-- a text has at most this many bytes
abbrev pub max_text : ℕ
max_text = 32768

-- a number in a text is at most this
abbrev pub max_number : ℕ
max_number = 65535

-- the section `pins` has at most this many numbers
abbrev pub max_pin_numbers : ℕ
max_pin_numbers = 64

-- the section `log` has at most this many events
abbrev pub max_log : ℕ
max_log = 4096
