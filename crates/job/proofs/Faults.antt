-- The fault is the first, and nothing after it can change it.
use Rattle.std.proofs.Common.{◌≡◌, ℕ, ◌+◌, ◌<◌, ◌≤◌, false, ◌⊎◌, List, [], ◌∷◌, ◌++◌, length, Some, None, Ok, Err, Option, Result, sym, refl, ap, ◌∙◌, subst, inl, inr, arith}
use Rattle.std.specs.List.{AllByRecursion}
use Rattle.std.proofs.lemmas.List.{length-append}
use Rattle.job.specs.Limits.{max_text}
use Rattle.job.specs.Faults.{Finding}
use Rattle.job.specs.Runs.{Run, runs_from, runs, sort}
use Rattle.job.specs.Content.{Content}
use Rattle.job.specs.States.{State, state, start}
use Rattle.job.specs.Steps.{step, sort_step}
use Rattle.job.specs.Reading.{by_answer, walk, stopped, ended, finish, read}
use Rattle.job.specs.Laws.{Parted, NothingAfter, OnlyEnds, FirstFault}
use Rattle.job.specs.declared.expected.Expected.{Expected}
use Rattle.job.specs.declared.tokens.Sort.{Sort}
use Rattle.job.specs.declared.tokens.Sort.TheVariants.{Letter, Digit}
use Rattle.job.specs.declared.expected.Expected.TheVariants.{KindWord, Title, Count, Number, PinNumber, End}
use Rattle.job.proofs.Cuts.{runs_parted, Lies, runs_lie}
use Rattle.job.proofs.Placed.{Placed, placed_walk}
use Rattle.job.proofs.Walked.{read_is}

-- a walk over two lists of runs
walk_on : (a : Result State Finding) (xs ys : List Run) → ((t : State) → walk t (xs ++ ys) ≡ by_answer (walk t xs) (λ u. walk u ys) (λ f. Err f)) → by_answer a (λ t. walk t (xs ++ ys)) (λ f. Err f) ≡ by_answer (by_answer a (λ t. walk t xs) (λ f. Err f)) (λ u. walk u ys) (λ f. Err f)
walk_on (Ok t) xs ys go = go t
walk_on (Err f) xs ys go = refl

walk_append : (s : State) (xs ys : List Run) → walk s (xs ++ ys) ≡ by_answer (walk s xs) (λ t. walk t ys) (λ f. Err f)
walk_append s [] ys = refl
walk_append s (x ∷ xs) ys = walk_on (step s x) xs ys (λ t. walk_append t xs ys)

stopped_on : (a : Result State Finding) (x : Run) (xs ys : List Run) → ((t : State) → stopped t (xs ++ ys) ≡ by_answer (walk t xs) (λ u. stopped u ys) (λ f. stopped t xs)) → by_answer a (λ t. stopped t (xs ++ ys)) (λ f. Some x) ≡ by_answer (by_answer a (λ t. walk t xs) (λ f. Err f)) (λ u. stopped u ys) (λ f. by_answer a (λ t. stopped t xs) (λ g. Some x))
stopped_on (Ok t) x xs ys go = go t
stopped_on (Err f) x xs ys go = refl

stopped_append : (s : State) (xs ys : List Run) → stopped s (xs ++ ys) ≡ by_answer (walk s xs) (λ t. stopped t ys) (λ f. stopped s xs)
stopped_append s [] ys = refl
stopped_append s (x ∷ xs) ys = stopped_on (step s x) x xs ys (λ t. stopped_append t xs ys)

-- the run at which a walk stopped is one of its runs
abbrev Is : (Run → Type 0) → Option Run → Type 0
Is P None = Unit {0}
Is P (Some r) = P r

stopped_is_on : (P : Run → Type 0) (a : Result State Finding) (x : Run) (xs : List Run) → P x → ((t : State) → Is P (stopped t xs)) → Is P (by_answer a (λ t. stopped t xs) (λ f. Some x))
stopped_is_on P (Ok t) x xs p go = go t
stopped_is_on P (Err f) x xs p go = p

stopped_is : (P : Run → Type 0) (s : State) (xs : List Run) → AllByRecursion P xs → Is P (stopped s xs)
stopped_is P s [] a = tt
stopped_is P s (x ∷ xs) a = stopped_is_on P (step s x) x xs a.0 (λ t. stopped_is P t xs a.1)

module _ (front back : List ℕ) (short : length (front ++ back) ≤ max_text) (parted : Parted front back) where
  read_parts : (a : Result State Finding) → walk start (runs front) ≡ a → read (front ++ back) ≡ by_answer (by_answer a (λ t. walk t (runs_from false (length front) back)) (λ f. Err f)) (finish (length (front ++ back))) (λ f. Err f)
  read_parts a e =
      read_is (front ++ back) short _
      (ap (walk start) (runs_parted front back parted) ∙ walk_append start (runs front) (runs_from false (length front) back)
      ∙ ap (λ (b : Result State Finding). by_answer b (λ t. walk t (runs_from false (length front) back)) (λ f. Err f)) e)

  stopped_parts : (a : Result State Finding) → walk start (runs front) ≡ a → stopped start (runs (front ++ back)) ≡ by_answer a (λ t. stopped t (runs_from false (length front) back)) (λ f. stopped start (runs front))
  stopped_parts a e =
      ap (stopped start) (runs_parted front back parted) ∙ stopped_append start (runs front) (runs_from false (length front) back)
      ∙ ap (λ (b : Result State Finding). by_answer b (λ t. stopped t (runs_from false (length front) back)) (λ f. stopped start (runs front))) e

after_by : (front back other : List ℕ) (r : Run) (a : Result State Finding) → walk start (runs front) ≡ a
    → length (front ++ back) ≤ max_text → length (front ++ other) ≤ max_text → Parted front back → Parted front other
    → stopped start (runs (front ++ back)) ≡ Some r → r.place < length front → read (front ++ other) ≡ read (front ++ back)
after_by front back other r (Err f) e h k p q st inside = read_parts front other k q (Err f) e ∙ sym (read_parts front back h p (Err f) e)
after_by front back other r (Ok t) e h k p q st inside =
    let found : stopped t (runs_from false (length front) back) ≡ Some r = sym (stopped_parts front back h p (Ok t) e) ∙ st in
    let lies = runs_lie false (length front) back (length front + length back) (omega arith) in
    let is : Lies (length front) (length front + length back) r = subst (Is (Lies (length front) (length front + length back))) found (stopped_is (Lies (length front) (length front + length back)) t (runs_from false (length front) back) lies) in
    absurd (omega (arith, is.0))

pub nothing_after : NothingAfter
nothing_after front back other r h k p q st inside = after_by front back other r (walk start (runs front)) refl h k p q st inside

-- after a whole job a run too many is a fault of its own
abbrev TooMany : Result Content Finding → Type 0
TooMany (Ok c) = Unit {0}
TooMany (Err f) = (f.number ≡ 3) ⊎ (f.number ≡ 1)

too_many_sort : (c : Content) (r : Run) (rs : List Run) (len : ℕ) (x : Result Sort ℕ) → TooMany (by_answer (by_answer (sort_step (state End c) r x) (λ t. walk t rs) (λ f. Err f)) (finish len) (λ f. Err f))
too_many_sort c r rs len (Ok Letter) = inl refl
too_many_sort c r rs len (Ok Digit) = inl refl
too_many_sort c r rs len (Err p) = inr refl

too_many : (c : Content) (rs : List Run) (len : ℕ) → TooMany (by_answer (walk (state End c) rs) (finish len) (λ f. Err f))
too_many c [] len = tt
too_many c (r ∷ rs) len = too_many_sort c r rs len (sort r)

-- what the front is, by what the walk over it expects next
first_at : (front : List ℕ) (f : Finding) (rs : List Run) (len : ℕ) (e : Expected) (c : Content) → read front ≡ ended (length front) e c → by_answer (walk (state e c) rs) (finish len) (λ g. Err g) ≡ Err f → OnlyEnds front f
first_at front f rs len KindWord c q all = inl q
first_at front f rs len (Title section) c q all = inl q
first_at front f rs len (Count section) c q all = inl q
first_at front f rs len (Number section after) c q all = inl q
first_at front f rs len (PinNumber after event first) c q all = inl q
first_at front f rs len End c q all = inr (c, q, subst TooMany all (too_many c rs len))

first_by : (front back : List ℕ) (f : Finding) (a : Result State Finding) → walk start (runs front) ≡ a → length (front ++ back) ≤ max_text → Parted front back → read (front ++ back) ≡ Err f → length front ≤ f.place → OnlyEnds front f
first_by front back f (Err g) e h p err at =
    let same : g ≡ f = let all = sym (read_parts front back h p (Err g) e) ∙ err in cc in
    let placed : g.place < length front = subst (Placed (length front)) e (placed_walk 0 (length front) start (runs front) (runs_lie false 0 front (length front) (omega arith)) tt) in
    absurd (omega (arith, ap (λ (x : Finding). x.place) same))
first_by front back f (Ok t) e h p err at =
    let long = length-append front back in
    first_at front f (runs_from false (length front) back) (length (front ++ back)) t.expected t.content (read_is front (omega arith) (Ok t) e) (sym (read_parts front back h p (Ok t) e) ∙ err)

pub first_fault : FirstFault
first_fault front back f h p err at = first_by front back f (walk start (runs front)) refl h p err at
