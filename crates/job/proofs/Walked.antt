-- Walks over the runs of a text, run by run.
use Rattle.std.proofs.Common.{◌≡◌, ℕ, ◌+◌, ◌-◌, ◌≤◌, List, ◌∷◌, ◌++◌, length, take, drop, Ok, Err, Result, sym, refl, ap, ◌∙◌, arith}
use Rattle.std.proofs.lemmas.List.{take-append-drop, length-take-le, drop-drop}
use Rattle.std.proofs.lemmas.Bool.{cond-false, le-ltb}
use Rattle.job.specs.Limits.{max_text, max_log}
use Rattle.job.specs.Faults.{Finding, finding, cause_number, finding_of}
use Rattle.job.specs.Runs.{Run, run_at, runs, runs_at, sort}
use Rattle.job.specs.States.{State, start}
use Rattle.job.specs.Steps.{step, sort_step}
use Rattle.job.specs.Reading.{by_answer, walk, reached, finish, read, events_read, written}
use Rattle.job.specs.Answers.{state_of, token_step, Next, Writes}
use Rattle.job.specs.declared.fault.Fault.{Fault}
use Rattle.job.specs.declared.reader.Reader.{Reader}
use Rattle.job.specs.declared.tokens.Token.{Token}
use Rattle.job.specs.declared.tokens.Token.TheVariants.{Word, Digits, End}

module _ (s : State) (rs : List Run) where
  pub walk_fault : (r : Run) (rest : List Run) (f : Finding) → rs ≡ r ∷ rest → step s r ≡ Err f → walk s rs ≡ Err f
  walk_fault r rest f e q = ap (walk s) e ∙ ap (λ (a : Result State Finding). by_answer a (λ t. walk t rest) (λ g. Err g)) q

  pub reached_fault : (r : Run) (rest : List Run) (f : Finding) → rs ≡ r ∷ rest → step s r ≡ Err f → reached s rs ≡ s
  reached_fault r rest f e q = ap (reached s) e ∙ ap (λ (a : Result State Finding). by_answer a (λ t. reached t rest) (λ g. s)) q

  pub walk_goes : (r : Run) (rest : List Run) (t : State) → rs ≡ r ∷ rest → step s r ≡ Ok t → walk s rs ≡ walk t rest
  walk_goes r rest t e q = ap (walk s) e ∙ ap (λ (a : Result State Finding). by_answer a (λ t. walk t rest) (λ g. Err g)) q

  pub reached_goes : (r : Run) (rest : List Run) (t : State) → rs ≡ r ∷ rest → step s r ≡ Ok t → reached s rs ≡ reached t rest
  reached_goes r rest t e q = ap (reached s) e ∙ ap (λ (a : Result State Finding). by_answer a (λ t. reached t rest) (λ g. s)) q

-- a spoiled run
pub step_spoiled : (s : State) (r : Run) (f : Fault) → sort r ≡ Err f.place → cause_number f.cause ≡ 1 → step s r ≡ Err (finding_of f)
step_spoiled s r f e q = ap (sort_step s r) e ∙ ap (λ n. Err (finding n f.place)) (sym q)

-- the run of a token
pub arrives : (s : State) (text : List ℕ) (from to : ℕ) (token : Token) → ((p : ℕ) → token ≡ End p → ⊥) → Next text from to (Ok token) → (r : Run) × (runs_at from text ≡ r ∷ runs_at to text) × (step s r ≡ token_step s.expected token s.content)
arrives s text from to (Word run place) other n = (run_at place run.now, n.0, ap (sort_step s (run_at place run.now)) n.1)
arrives s text from to (Digits run place) other n = (run_at place run.digits.now, n.0, ap (sort_step s (run_at place run.digits.now)) n.1)
arrives s text from to (End place) other n = absurd (other place refl)

pub read_is : (text : List ℕ) → length text ≤ max_text → (w : Result State Finding) → walk start (runs text) ≡ w → read text ≡ by_answer w (finish (length text)) (λ f. Err f)
read_is text h w e =
    cond-false _ _ _ (le-ltb max_text (length text) h) ∙ ap (λ (a : Result State Finding). by_answer a (finish (length text)) (λ f. Err f)) e

pub events_are : (text : List ℕ) → length text ≤ max_text → (s : State) → reached start (runs text) ≡ s → events_read text ≡ s.content.log
events_are text h s e = cond-false _ _ _ (le-ltb max_text (length text) h) ∙ ap (λ (t : State). t.content.log) e

pub log_written : (log entry xs : List ℕ) (events : ℕ) → events ≤ length log → xs ≡ take events log → drop events log ≡ drop events entry → log ≡ written xs entry
log_written log entry xs events h e kept =
    let long : length xs ≡ events = ap length e ∙ length-take-le events log h in
    sym (take-append-drop events log)
    ∙ ap (λ (ys : List ℕ). take events log ++ ys) kept
    ∙ ap (λ (ys : List ℕ). ys ++ drop events entry) (sym e)
    ∙ ap (λ n. xs ++ drop n entry) (sym long)

pub drop_further : (xs ys : List ℕ) (m n : ℕ) → m ≤ n → drop m xs ≡ drop m ys → drop n xs ≡ drop n ys
drop_further xs ys m n h e =
    let more : m + (n - m) ≡ n = omega arith in
    ap (λ k. drop k xs) (sym more) ∙ sym (drop-drop (n - m) m xs) ∙ ap (drop (n - m)) e ∙ drop-drop (n - m) m ys ∙ ap (λ k. drop k ys) more

-- what is left of a text gives what the whole of it gives, and nothing behind the events that are read has changed
pub record Walking (text entry : List ℕ) (place : ℕ) (r : Reader) (log : List ℕ) : Type 0 where
  pub walks : walk (state_of r log) (runs_at place text) ≡ walk start (runs text)
  pub reaches : reached (state_of r log) (runs_at place text) ≡ reached start (runs text)
  pub kept : drop r.job.events log ≡ drop r.job.events entry
  pub long : length log ≡ max_log

module _ (text entry : List ℕ) (short : length text ≤ max_text) where
  log_read : (r : Reader) (log : List ℕ) → length log ≡ max_log → reached start (runs text) ≡ state_of r log → drop r.job.events log ≡ drop r.job.events entry → log ≡ written (events_read text) entry
  log_read r log long at kept =
      let room = r.log_room in
      let few : r.job.events ≤ length log = omega (arith, long) in
      log_written log entry _ r.job.events few (events_are text short (state_of r log) at) kept

  module _ (place : ℕ) (r : Reader) (log : List ℕ) (w : Walking text entry place r log) where
    -- a run that is spoiled
    pub spoiled_ends : (to : ℕ) (f : Fault) → Next text place to (Err f) → (Err (finding_of f) ≡ read text) × (log ≡ written (events_read text) entry)
    spoiled_ends to f n =
        let s = state_of r log in
        let errs = step_spoiled s n.0 f n.3 n.4 in (
          sym (read_is text short (Err (finding_of f)) (sym w.walks ∙ walk_fault s (runs_at place text) n.0 n.1 (finding_of f) n.2 errs)),
          log_read r log w.long (sym w.reaches ∙ reached_fault s (runs_at place text) n.0 n.1 (finding_of f) n.2 errs) w.kept,
        )

    -- the text's end
    pub text_ends : (to p : ℕ) → Next text place to (Ok (End p)) → (finish p (state_of r log) ≡ read text) × (log ≡ written (events_read text) entry)
    text_ends to p n =
        let s = state_of r log in (
          ap (λ q. finish q s) n.1 ∙ sym (read_is text short (Ok s) (sym w.walks ∙ ap (walk s) n.0)),
          log_read r log w.long (sym w.reaches ∙ ap (reached s) n.0) w.kept,
        )

    -- a token that the reader takes, or refuses
    module _ (to : ℕ) (token : Token) (other : (p : ℕ) → token ≡ End p → ⊥) (n : Next text place to (Ok token)) (exit : Reader) (after : List ℕ) (long : length after ≡ max_log) where
      pub token_goes : (u : Unit {0}) → Writes r exit log after (Ok u) (token_step r.expected token) → Walking text entry to exit after
      token_goes u x =
          let s = state_of r log in
          let a = arrives s text place to token other n in
          let goes = a.2 ∙ sym x.step in
          record {
            walks = sym (walk_goes s (runs_at place text) a.0 (runs_at to text) (state_of exit after) a.1 goes) ∙ w.walks;
            reaches = sym (reached_goes s (runs_at place text) a.0 (runs_at to text) (state_of exit after) a.1 goes) ∙ w.reaches;
            kept = x.rest ∙ drop_further log entry r.job.events exit.job.events x.grown w.kept;
            long = long;
          }

      pub token_stops : (f : Fault) → Writes r exit log after (Err f) (token_step r.expected token) → (Err (finding_of f) ≡ read text) × (after ≡ written (events_read text) entry)
      token_stops f x =
          let s = state_of r log in
          let a = arrives s text place to token other n in
          let errs = a.2 ∙ sym x.step in (
            sym (read_is text short (Err (finding_of f)) (sym w.walks ∙ walk_fault s (runs_at place text) a.0 (runs_at to text) (finding_of f) a.1 errs)),
            log_read exit after long
                (sym w.reaches ∙ reached_fault s (runs_at place text) a.0 (runs_at to text) (finding_of f) a.1 errs ∙ sym (x.same refl))
                (x.rest ∙ drop_further log entry r.job.events exit.job.events x.grown w.kept),
          )
