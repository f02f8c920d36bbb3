-- A fault lies within the runs up to the one at which it was found.
use Rattle.std.proofs.Common.{ℕ, ◌+◌, ◌-◌, ◌<◌, ◌≤◌, Bool, ◌&&◌, eqb, ltb, List, [], ◌∷◌, length, Some, None, Ok, Err, Option, Result, arith}
use Rattle.std.specs.List.{AllByRecursion}
use Rattle.std.proofs.lemmas.Bool.{cond_both}
use Rattle.std.specs.Str.{bytes_eq}
use Rattle.tables.specs.Limits.{max_size, max_delta}
use Rattle.tables.specs.Pins.{pin_answer}
use Rattle.tables.specs.Table.{within}
use Rattle.job.specs.Faults.{Finding, finding}
use Rattle.job.specs.Runs.{Run, of_sort, sort_of, wrong, sorted}
use Rattle.job.specs.Numerals.{numeral}
use Rattle.job.specs.Content.{Content, is_delta, with_bound, laid, with_kind, with_size, add_trace, add_event}
use Rattle.job.specs.Words.{kind_named, title_word, following, coming}
use Rattle.job.specs.States.{State, state}
use Rattle.job.specs.Taking.{is_count, count_fault, number_step, pin_step}
use Rattle.job.specs.Steps.{kind_step, word_step, value_step, takes_number, read_step, digits_step, sort_step, step}
use Rattle.job.specs.Reading.{by_answer, walk}
use Rattle.job.specs.declared.accepted.Kind.{Kind}
use Rattle.job.specs.declared.tokens.Sort.{Sort}
use Rattle.job.specs.declared.tokens.Sort.TheVariants.{Letter, Digit}
use Rattle.job.specs.declared.expected.Section.{Section}
use Rattle.job.specs.declared.expected.Section.TheVariants.{Size, Bounds, Pins, Trace, Log}
use Rattle.job.specs.declared.expected.Expected.{Expected}
use Rattle.job.specs.declared.expected.Expected.TheVariants.{KindWord, Title, Count, Number, PinNumber, End}
use Rattle.job.proofs.Cuts.{Lies}

-- the place that is kept of a pin's event is below n
abbrev pub Kept : ℕ → Expected → Type 0
Kept n KindWord = Unit {0}
Kept n (Title section) = Unit {0}
Kept n (Count section) = Unit {0}
Kept n (Number section after) = Unit {0}
Kept n (PinNumber after event first) = first < n
Kept n End = Unit {0}

-- a state that keeps such a place, or a fault at one
abbrev pub Placed : ℕ → Result State Finding → Type 0
Placed n (Ok s) = Kept n s.expected
Placed n (Err f) = f.place < n

abbrev Below : ℕ → Option ℕ → Type 0
Below n None = Unit {0}
Below n (Some p) = p < n

kept_following : (n : ℕ) (section : Section) → Kept n (following section)
kept_following n Size = tt
kept_following n Bounds = tt
kept_following n Pins = tt
kept_following n Trace = tt
kept_following n Log = tt

kept_coming : (n : ℕ) (section : Section) (k : ℕ) → Kept n (coming section k)
kept_coming n section k = cond_both (eqb k 0) (following section) (Number section (k - 1)) (Kept n) (λ _. kept_following n section) (λ _. tt)

wrong_below : (test : ℕ → Bool) (place : ℕ) (bs : List ℕ) (n : ℕ) → place + length bs ≤ n → Below n (wrong test place bs)
wrong_below test place [] n h = tt
wrong_below test place (b ∷ bs) n h =
    cond_both (test b) (wrong test (place + 1) bs) (Some place) (Below n) (λ _. wrong_below test (place + 1) bs n (omega arith)) (λ _. let l : place < n = omega arith in l)

module _ (n place : ℕ) (here : place < n) (c : Content) where
  placed_kind : (k : Option Kind) → Placed n (kind_step c place k)
  placed_kind None = here
  placed_kind (Some k) = tt

  placed_word : (e : Expected) (w : List ℕ) → Placed n (word_step e c w place)
  placed_word KindWord w = placed_kind (kind_named w)
  placed_word (Title section) w = cond_both (bytes_eq w (title_word section)) (Ok (state (Count section) c)) (Err (finding 3 place)) (Placed n) (λ _. tt) (λ _. here)
  placed_word (Count section) w = here
  placed_word (Number section after) w = here
  placed_word (PinNumber after event first) w = here
  placed_word End w = here

  placed_number : (section : Section) (after v : ℕ) → Placed n (number_step section after c v place)
  placed_number Size after v = cond_both (within max_size v) (Ok (state (coming Size after) (with_size c v))) (Err (finding 6 place)) (Placed n) (λ _. kept_coming n Size after) (λ _. here)
  placed_number Bounds after v = cond_both (is_delta c.kind after && ltb max_delta v) (Err (finding 8 place)) (Ok (state (coming Bounds after) (with_kind c (with_bound c.kind after v)))) (Placed n) (λ _. here) (λ _. kept_coming n Bounds after)
  placed_number Pins after v = here
  placed_number Trace after v = cond_both (within c.size v) (Ok (state (coming Trace after) (add_trace c v))) (Err (finding 7 place)) (Placed n) (λ _. kept_coming n Trace after) (λ _. here)
  placed_number Log after v = cond_both (within c.size v) (Ok (state (coming Log after) (add_event c v))) (Err (finding 5 place)) (Placed n) (λ _. kept_coming n Log after) (λ _. here)

  placed_pin : (after event first v : ℕ) → first < n → (a : Result (Unit {0}) ℕ) → Placed n (pin_step after event first c v a)
  placed_pin after event first v h (Ok u) = kept_coming n Pins (after - 1)
  placed_pin after event first v h (Err e) = h

  placed_value : (e : Expected) (v : ℕ) → Kept n e → Placed n (value_step e c v place)
  placed_value KindWord v k = here
  placed_value (Title section) v k = here
  placed_value (Count section) v k = cond_both (is_count section c.kind v) (Ok (state (coming section v) c)) (Err (finding (count_fault section) place)) (Placed n) (λ _. kept_coming n section v) (λ _. here)
  placed_value (Number section after) v k = placed_number section after v
  placed_value (PinNumber after event first) v k = placed_pin after event first v k (pin_answer c.size (laid c.size c.pins) event v)
  placed_value End v k = here

  placed_read : (e : Expected) (o : Option ℕ) → Kept n e → Placed n (read_step e c place o)
  placed_read e None k = here
  placed_read e (Some v) k = placed_value e v k

  placed_digits : (e : Expected) (ds : List ℕ) → Kept n e → Placed n (digits_step e c ds place)
  placed_digits e ds k = cond_both (takes_number e) (read_step e c place (numeral ds)) (Err (finding 3 place)) (Placed n) (λ _. placed_read e (numeral ds) k) (λ _. here)

placed_sorted : (n : ℕ) (s : State) (r : Run) → r.place < n → Kept n s.expected → (x : Sort) (o : Option ℕ) → Below n o → Placed n (sort_step s r (sorted x o))
placed_sorted n s r here k Letter None b = placed_word n r.place here s.content s.expected r.bytes
placed_sorted n s r here k Digit None b = placed_digits n r.place here s.content s.expected r.bytes k
placed_sorted n s r here k x (Some p) b = b

pub placed_step : (low n : ℕ) (s : State) (r : Run) → Lies low n r → Kept n s.expected → Placed n (step s r)
placed_step low n s r l k =
    placed_sorted n s r l.1 k (sort_of r.bytes) (wrong (of_sort (sort_of r.bytes)) r.place r.bytes)
    (wrong_below (of_sort (sort_of r.bytes)) r.place r.bytes n l.2)

placed_on : (n : ℕ) (a : Result State Finding) (go : State → Result State Finding) → Placed n a → ((t : State) → Kept n t.expected → Placed n (go t)) → Placed n (by_answer a go (λ f. Err f))
placed_on n (Ok t) go p h = h t p
placed_on n (Err f) go p h = p

pub placed_walk : (low n : ℕ) (s : State) (rs : List Run) → AllByRecursion (Lies low n) rs → Kept n s.expected → Placed n (walk s rs)
placed_walk low n s [] a k = k
placed_walk low n s (r ∷ rs) a k = placed_on n (step s r) (λ t. walk t rs) (placed_step low n s r a.0 k) (λ t j. placed_walk low n t rs a.1 j)
