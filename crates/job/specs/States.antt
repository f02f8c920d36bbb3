-- How far a text is read: what is expected, and what the job says so far.
use Rattle.std.specs.Prelude.{[]}
use Rattle.job.specs.Content.{Content}
use Rattle.job.specs.declared.accepted.Kind.TheVariants.{Mismatch}
use Rattle.job.specs.declared.expected.Expected.{Expected}
use Rattle.job.specs.declared.expected.Expected.TheVariants.{KindWord}

pub record State : Type 0 where
  pub expected : Expected
  pub content : Content

abbrev pub state : Expected → Content → State
state e c = record { expected = e; content = c }

-- before the first run
abbrev pub start : State
start = state KindWord (record { kind = Mismatch 0; size = 0; pins = []; trace = []; log = [] })
