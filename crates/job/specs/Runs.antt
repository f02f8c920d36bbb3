-- The runs of a text: all that stands between two blanks.
use Rattle.std.specs.Prelude.{ℕ, ◌+◌, Bool, true, false, cond, List, [], ◌∷◌, drop, Some, None, Ok, Err, Option, Result, ◌==◌, nat_le}
use Rattle.job.specs.declared.tokens.Sort.{Sort}
use Rattle.job.specs.declared.tokens.Sort.TheVariants.{Letter, Digit}

-- where the run begins, counted from 0, and its bytes
pub record Run : Type 0 where
  pub place : ℕ
  pub bytes : List ℕ

abbrev pub run_at : ℕ → List ℕ → Run
run_at place bytes = record { place = place; bytes = bytes }

-- a space or a line feed
abbrev pub blank : ℕ → Bool
blank b = cond (b == 32) true (b == 10)

-- the bytes up to the first blank
abbrev pub front : List ℕ → List ℕ
front [] = []
front (b ∷ bs) = cond (blank b) [] (b ∷ front bs)

-- the runs of the bytes that stand from a place on; `inside` says that a run has begun before them
abbrev pub runs_from : Bool → ℕ → List ℕ → List Run
runs_from inside place [] = []
runs_from inside place (b ∷ bs) =
    cond (blank b) (runs_from false (place + 1) bs)
    (cond inside (runs_from true (place + 1) bs) (run_at place (b ∷ front bs) ∷ runs_from true (place + 1) bs))

abbrev pub runs : List ℕ → List Run
runs text = runs_from false 0 text

-- the runs from a place on at which none has begun
abbrev pub runs_at : ℕ → List ℕ → List Run
runs_at place text = runs_from false place (drop place text)

-- a letter from a to z
abbrev pub letter : ℕ → Bool
letter b = cond (nat_le 97 b) (nat_le b 122) false

abbrev pub digit : ℕ → Bool
digit b = cond (nat_le 48 b) (nat_le b 57) false

-- a byte of a sort
abbrev pub of_sort : Sort → ℕ → Bool
of_sort Letter b = letter b
of_sort Digit b = digit b

-- the place of the first byte that fails a test
abbrev pub wrong : (ℕ → Bool) → ℕ → List ℕ → Option ℕ
wrong test place [] = None
wrong test place (b ∷ bs) = cond (test b) (wrong test (place + 1) bs) (Some place)

-- a run that begins with a letter is letters, any other is digits
abbrev pub sort_of : List ℕ → Sort
sort_of [] = Digit
sort_of (b ∷ bs) = cond (letter b) Letter Digit

-- the sort of a run, or the place of the byte that spoils it
abbrev pub sorted : Sort → Option ℕ → Result Sort ℕ
sorted s None = Ok s
sorted s (Some place) = Err place

abbrev pub sort : Run → Result Sort ℕ
sort r = sorted (sort_of r.bytes) (wrong (of_sort (sort_of r.bytes)) r.place r.bytes)
