-- What the code's values mean.
use Rattle.std.specs.Prelude.{◌≡◌, ℕ, ◌<◌, ◌≤◌, false, List, [], ◌∷◌, length, take, drop, is_ok, Some, None, Ok, Err, Option, Result}
use Rattle.job.specs.Faults.{Finding, finding, finding_of, cause_number}
use Rattle.job.specs.Runs.{Run, run_at, runs_at, sort}
use Rattle.job.specs.Content.{Content}
use Rattle.job.specs.States.{State, state}
use Rattle.job.specs.Steps.{word_step, digits_step}
use Rattle.job.specs.declared.accepted.Job.{Job}
use Rattle.job.specs.declared.expected.Expected.{Expected}
use Rattle.job.specs.declared.fault.Fault.{Fault}
use Rattle.job.specs.declared.reader.Reader.{Reader}
use Rattle.job.specs.declared.tokens.Sort.TheVariants.{Letter, Digit}
use Rattle.job.specs.declared.tokens.Token.{Token}
use Rattle.job.specs.declared.tokens.Token.TheVariants.{Word, Digits, End}

-- a job, with its events at the front of a list
abbrev pub content_of : Job → List ℕ → Content
content_of j log = record {
  kind = j.kind;
  size = j.size;
  pins = j.pins.items;
  trace = j.trace.items;
  log = take j.events log;
}

-- an answer by its meaning: what an accepted call gives, or what its fault tells
abbrev pub told_by : {A B : Type 0} → (A → B) → Result A Fault → Result B Finding
told_by f (Ok a) = Ok (f a)
told_by f (Err e) = Err (finding_of e)

-- what the reading call tells
abbrev pub told : List ℕ → Result Job Fault → Result Content Finding
told log r = told_by (λ j. content_of j log) r

-- a reader, with the events that it has read at the front of a list
abbrev pub state_of : Reader → List ℕ → State
state_of r log = state r.expected (content_of r.job log)

-- what a step tells, with the state that is then reached
abbrev pub stepped : {A : Type 0} → State → Result A Fault → Result State Finding
stepped s r = told_by (λ u. s) r

-- a value that was read, or a fault
abbrev pub found : {A : Type 0} → Result A Fault → Result A Finding
found r = told_by (λ a. a) r

-- a step of the reader that leaves the log alone: what it tells, and nothing changes where it refuses
pub record Goes (entry exit : Reader) (r : Result (Unit {0}) Fault) (to : Content → Result State Finding) : Type 0 where
  pub step : (log : List ℕ) → stepped (state_of exit log) r ≡ to (state_of entry log).content
  pub same : is_ok r ≡ false → (log : List ℕ) → state_of exit log ≡ state_of entry log
  pub events : exit.job.events ≡ entry.job.events

-- a step of the reader with the list that the log is written to, where only the places up to the last event change
pub record Writes (entry exit : Reader) (log after : List ℕ) (r : Result (Unit {0}) Fault) (to : Content → Result State Finding) : Type 0 where
  pub step : stepped (state_of exit after) r ≡ to (state_of entry log).content
  pub same : is_ok r ≡ false → state_of exit after ≡ state_of entry log
  pub rest : drop exit.job.events after ≡ drop exit.job.events log
  pub grown : entry.job.events ≤ exit.job.events

-- the step at a token
abbrev pub token_step : Expected → Token → Content → Result State Finding
token_step e (Word run place) c = word_step e c run.now place
token_step e (Digits run place) c = digits_step e c run.digits.now place
token_step e (End place) c = Err (finding 3 place)

-- where a token stands
abbrev pub token_place : Token → ℕ
token_place (Word run place) = place
token_place (Digits run place) = place
token_place (End place) = place

-- what reading a number tells
abbrev pub numbered : ℕ → Option ℕ → Result ℕ Finding
numbered place None = Err (finding 2 place)
numbered place (Some n) = Ok n

-- the next token from one place on, the search going on from a later one
abbrev pub Next : List ℕ → ℕ → ℕ → Result Token Fault → Type 0
Next text from to (Ok (Word run place)) =
    (runs_at from text ≡ run_at place run.now ∷ runs_at to text) × (sort (run_at place run.now) ≡ Ok Letter) × (from < to)
Next text from to (Ok (Digits run place)) =
    (runs_at from text ≡ run_at place run.digits.now ∷ runs_at to text) × (sort (run_at place run.digits.now) ≡ Ok Digit) × (from < to)
Next text from to (Ok (End place)) = (runs_at from text ≡ []) × (place ≡ length text)
Next text from to (Err f) =
    (r : Run) × (rs : List Run) × (runs_at from text ≡ r ∷ rs) × (sort r ≡ Err f.place) × (cause_number f.cause ≡ 1)
