-- The words of a job text, and the order of its sections.
use Rattle.std.specs.Prelude.{ℕ, ◌-◌, cond, List, Some, None, codes, Option, ◌==◌}
use Rattle.std.specs.Str.{bytes_eq}
use Rattle.job.specs.declared.accepted.Kind.{Kind}
use Rattle.job.specs.declared.accepted.Kind.TheVariants.{Mismatch, Difference, Mixed}
use Rattle.job.specs.declared.expected.Section.{Section}
use Rattle.job.specs.declared.expected.Section.TheVariants.{Size, Bounds, Pins, Trace, Log}
use Rattle.job.specs.declared.expected.Expected.{Expected}
use Rattle.job.specs.declared.expected.Expected.TheVariants.{Title, Number, End}

abbrev pub kind_word : Kind → List ℕ
kind_word (Mismatch bound) = codes "mismatch"
kind_word (Difference delta bound) = codes "difference"
kind_word (Mixed delta first second) = codes "mixed"

-- the kind that a word names, its numbers still to come
abbrev pub kind_named : List ℕ → Option Kind
kind_named w =
    cond (bytes_eq w (codes "mismatch")) (Some (Mismatch 0))
    (cond (bytes_eq w (codes "difference")) (Some (Difference 0 0))
    (cond (bytes_eq w (codes "mixed")) (Some (Mixed 0 0 0)) None))

abbrev pub title_word : Section → List ℕ
title_word Size = codes "size"
title_word Bounds = codes "bounds"
title_word Pins = codes "pins"
title_word Trace = codes "trace"
title_word Log = codes "log"

-- what is expected after a section
abbrev pub following : Section → Expected
following Size = Title Bounds
following Bounds = Title Pins
following Pins = Title Trace
following Trace = Title Log
following Log = End

-- what is expected where so many numbers of a section are still to come
abbrev pub coming : Section → ℕ → Expected
coming section n = cond (n == 0) (following section) (Number section (n - 1))
