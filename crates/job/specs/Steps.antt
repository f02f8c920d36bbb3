-- One run after another.
use Rattle.std.specs.Prelude.{ℕ, Bool, true, false, cond, List, Some, None, Ok, Err, Option, Result}
use Rattle.std.specs.Str.{bytes_eq}
use Rattle.tables.specs.Pins.{pin_answer}
use Rattle.job.specs.Faults.{Finding, finding}
use Rattle.job.specs.Runs.{Run, sort}
use Rattle.job.specs.Numerals.{numeral}
use Rattle.job.specs.Content.{Content, laid, with_kind}
use Rattle.job.specs.Words.{kind_named, title_word}
use Rattle.job.specs.declared.accepted.Kind.{Kind}
use Rattle.job.specs.declared.expected.Section.TheVariants.{Size}
use Rattle.job.specs.declared.expected.Expected.{Expected}
use Rattle.job.specs.declared.expected.Expected.TheVariants.{KindWord, Title, Count, Number, PinNumber, End}
use Rattle.job.specs.declared.tokens.Sort.{Sort}
use Rattle.job.specs.declared.tokens.Sort.TheVariants.{Letter, Digit}
use Rattle.job.specs.States.{State, state}
use Rattle.job.specs.Taking.{count_step, number_step, pin_step}

-- a kind's word
abbrev pub kind_step : Content → ℕ → Option Kind → Result State Finding
kind_step c place None = Err (finding 3 place)
kind_step c place (Some kind) = Ok (state (Title Size) (with_kind c kind))

abbrev pub word_step : Expected → Content → List ℕ → ℕ → Result State Finding
word_step KindWord c w place = kind_step c place (kind_named w)
word_step (Title section) c w place = cond (bytes_eq w (title_word section)) (Ok (state (Count section) c)) (Err (finding 3 place))
word_step (Count section) c w place = Err (finding 3 place)
word_step (Number section after) c w place = Err (finding 3 place)
word_step (PinNumber after event first) c w place = Err (finding 3 place)
word_step End c w place = Err (finding 3 place)

abbrev pub value_step : Expected → Content → ℕ → ℕ → Result State Finding
value_step KindWord c n place = Err (finding 3 place)
value_step (Title section) c n place = Err (finding 3 place)
value_step (Count section) c n place = count_step section c n place
value_step (Number section after) c n place = number_step section after c n place
value_step (PinNumber after event first) c n place =
    pin_step after event first c n (pin_answer c.size (laid c.size c.pins) event n)
value_step End c n place = Err (finding 3 place)

-- whether a number may come at all
abbrev pub takes_number : Expected → Bool
takes_number KindWord = false
takes_number (Title section) = false
takes_number (Count section) = true
takes_number (Number section after) = true
takes_number (PinNumber after event first) = true
takes_number End = false

abbrev pub read_step : Expected → Content → ℕ → Option ℕ → Result State Finding
read_step e c place None = Err (finding 2 place)
read_step e c place (Some n) = value_step e c n place

abbrev pub digits_step : Expected → Content → List ℕ → ℕ → Result State Finding
digits_step e c ds place = cond (takes_number e) (read_step e c place (numeral ds)) (Err (finding 3 place))

-- a word, a number, or a run that is spoiled at a place
abbrev pub sort_step : State → Run → Result Sort ℕ → Result State Finding
sort_step s r (Ok Letter) = word_step s.expected s.content r.bytes r.place
sort_step s r (Ok Digit) = digits_step s.expected s.content r.bytes r.place
sort_step s r (Err place) = Err (finding 1 place)

abbrev pub step : State → Run → Result State Finding
step s r = sort_step s r (sort r)
