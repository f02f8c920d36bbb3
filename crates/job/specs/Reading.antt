-- From a text to a job or its first fault.
use Rattle.std.specs.Prelude.{ℕ, cond, List, [], ◌∷◌, ◌++◌, length, drop, Some, None, Ok, Err, Option, Result, nat_lt}
use Rattle.job.specs.Limits.{max_text}
use Rattle.job.specs.Faults.{Finding, finding}
use Rattle.job.specs.Runs.{Run, runs}
use Rattle.job.specs.Content.{Content}
use Rattle.job.specs.States.{State, start}
use Rattle.job.specs.Steps.{step}
use Rattle.job.specs.declared.expected.Expected.{Expected}
use Rattle.job.specs.declared.expected.Expected.TheVariants.{KindWord, Title, Count, Number, PinNumber, End}

-- what follows from an answer
abbrev pub by_answer : {A B F : Type 0} → Result A F → (A → B) → (F → B) → B
by_answer (Ok a) on-ok on-err = on-ok a
by_answer (Err f) on-ok on-err = on-err f

-- step after step: the state after the last run, or the first fault
abbrev pub walk : State → List Run → Result State Finding
walk s [] = Ok s
walk s (r ∷ rs) = by_answer (step s r) (λ t. walk t rs) (λ f. Err f)

-- the last state before the first fault
abbrev pub reached : State → List Run → State
reached s [] = s
reached s (r ∷ rs) = by_answer (step s r) (λ t. reached t rs) (λ f. s)

-- the run at which the first fault was found
abbrev pub stopped : State → List Run → Option Run
stopped s [] = None
stopped s (r ∷ rs) = by_answer (step s r) (λ t. stopped t rs) (λ f. Some r)

-- where the text ends: the job, or the fault that it ends too soon
abbrev pub ended : ℕ → Expected → Content → Result Content Finding
ended place KindWord c = Err (finding 3 place)
ended place (Title section) c = Err (finding 3 place)
ended place (Count section) c = Err (finding 3 place)
ended place (Number section after) c = Err (finding 3 place)
ended place (PinNumber after event first) c = Err (finding 3 place)
ended place End c = Ok c

abbrev pub finish : ℕ → State → Result Content Finding
finish place s = ended place s.expected s.content

-- the job that a text tells, or its first fault
abbrev pub read : List ℕ → Result Content Finding
read text =
    cond (nat_lt max_text (length text)) (Err (finding 4 max_text))
    (by_answer (walk start (runs text)) (finish (length text)) (λ f. Err f))

-- the events of the log that are read before the first fault, all of them where there is none
abbrev pub events_read : List ℕ → List ℕ
events_read text = cond (nat_lt max_text (length text)) [] (reached start (runs text)).content.log

-- a list with its first places overwritten
abbrev pub written : List ℕ → List ℕ → List ℕ
written xs ys = xs ++ drop (length xs) ys
