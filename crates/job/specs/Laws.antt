-- The laws of reading.
use Rattle.std.specs.Prelude.{◌≡◌, ℕ, ◌<◌, ◌≤◌, Bool, true, ◌⊎◌, List, [], ◌∷◌, ◌++◌, map, length, Some, Ok, Err}
use Rattle.job.specs.Limits.{max_text}
use Rattle.job.specs.Faults.{Finding, finding}
use Rattle.job.specs.Runs.{Run, blank, runs}
use Rattle.job.specs.Content.{Content}
use Rattle.job.specs.States.{start}
use Rattle.job.specs.Reading.{stopped, read}
use Rattle.job.specs.Spelling.{spelled, Valid}

-- bytes that are none, or begin with a blank
abbrev pub begins_blank : List ℕ → Bool
begins_blank [] = true
begins_blank (b ∷ bs) = blank b

-- bytes that are none, or end with a blank
abbrev pub ends_blank : List ℕ → Bool
ends_blank [] = true
ends_blank (b ∷ []) = blank b
ends_blank (b ∷ c ∷ bs) = ends_blank (c ∷ bs)

-- a text that is not cut inside a run
abbrev pub Parted : List ℕ → List ℕ → Type 0
Parted front back = (ends_blank front ≡ true) ⊎ (begins_blank back ≡ true)

-- What stands after the run at which the fault was found cannot change the fault.
abbrev pub NothingAfter : Type 0
NothingAfter =
    (front back other : List ℕ) (r : Run)
    → length (front ++ back) ≤ max_text → length (front ++ other) ≤ max_text
    → Parted front back → Parted front other
    → stopped start (runs (front ++ back)) ≡ Some r → r.place < length front
    → read (front ++ other) ≡ read (front ++ back)

-- a text with no fault but that it ends; or a whole job, after which another text has a run too many
abbrev pub OnlyEnds : List ℕ → Finding → Type 0
OnlyEnds text f =
    (read text ≡ Err (finding 3 (length text)))
    ⊎ ((j : Content) × (read text ≡ Ok j) × ((f.number ≡ 3) ⊎ (f.number ≡ 1)))

-- The fault is the first: cut off before the run at fault, the text has no fault but that it ends there.
abbrev pub FirstFault : Type 0
FirstFault =
    (front back : List ℕ) (f : Finding)
    → length (front ++ back) ≤ max_text → Parted front back
    → read (front ++ back) ≡ Err f → length front ≤ f.place
    → OnlyEnds front f

-- Every job reads back as itself from each text whose runs spell it, however they are spaced.
abbrev pub ReadsBack : Type 0
ReadsBack =
    (text : List ℕ) (j : Content)
    → length text ≤ max_text → map (λ (r : Run). r.bytes) (runs text) ≡ spelled j → Valid j
    → read text ≡ Ok j

-- Only texts whose runs spell a job are accepted.
abbrev pub OnlyJobs : Type 0
OnlyJobs =
    (text : List ℕ) (j : Content) → read text ≡ Ok j
    → (length text ≤ max_text) × (map (λ (r : Run). r.bytes) (runs text) ≡ spelled j) × Valid j

pub record ReadingLaws : Type 0 where
  pub reads_back : ReadsBack
  pub only_jobs : OnlyJobs
  pub nothing_after : NothingAfter
  pub first_fault : FirstFault
