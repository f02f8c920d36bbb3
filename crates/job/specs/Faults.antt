-- What a fault tells: its layer, its number and its place.
use Rattle.std.specs.Prelude.{ℕ, cond, nat_le, List, codes}
use Rattle.tables.specs.Refusals.{refusal_number}
use Rattle.job.specs.declared.fault.Layer.{Layer}
use Rattle.job.specs.declared.fault.Layer.TheVariants.{Text, Job, Watch}
use Rattle.job.specs.declared.fault.Cause.{Cause}
use Rattle.job.specs.declared.fault.Cause.TheVariants.{Byte, Numeral, Unexpected, Limit, Refused}
use Rattle.job.specs.declared.fault.Fault.{Fault}

pub record Finding : Type 0 where
  pub layer : Layer
  pub number : ℕ
  pub place : ℕ

-- 1 and 2 are of the text, 3 and 4 of the job, and the rest are the numbers of the watch's calls
abbrev pub layer_of : ℕ → Layer
layer_of n = cond (nat_le n 2) Text (cond (nat_le n 4) Job Watch)

-- the word that a layer prints as
abbrev pub layer_word : Layer → List ℕ
layer_word Text = codes "text"
layer_word Job = codes "job"
layer_word Watch = codes "watch"

abbrev pub finding : ℕ → ℕ → Finding
finding n place = record { layer = layer_of n; number = n; place = place }

abbrev pub cause_number : Cause → ℕ
cause_number Byte = 1
cause_number Numeral = 2
cause_number Unexpected = 3
cause_number Limit = 4
cause_number (Refused r) = refusal_number r

abbrev pub finding_of : Fault → Finding
finding_of f = finding (cause_number f.cause) f.place
