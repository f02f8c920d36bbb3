-- Tables that sum what the places of their window cost.
use Rattle.std.specs.Prelude.{ℕ, Bool, cond, ◌&&◌, List, [], ◌∷◌, length, Ok, Err, Result, ◌==◌}
use Rattle.std.specs.List.{list_all}
use Rattle.costs.specs.Kind.{Kind}
use Rattle.tables.specs.Limits.{max_size, max_places}
use Rattle.tables.specs.Table.{Table, within}
use Rattle.tables.specs.declared.grade.Grade.{Grade}
use Rattle.tables.specs.declared.grade.Grade.TheVariants.{Closed, Open}

-- the sum of two grades, closed where one of them is
abbrev pub add_grade : {C : Type 0} → Kind C → Grade C → Grade C → Grade C
add_grade k Closed h = Closed
add_grade k (Open a) Closed = Closed
add_grade k (Open a) (Open b) = Open (k.plus a b)

-- the grade of (r, c): the sum over the places of the window that hold r, place j of the window against number j of
-- the trace; open at zero where no place holds r
abbrev pub graded : {C : Type 0} → Kind C → (ℕ → ℕ → Grade C) → List ℕ → List ℕ → ℕ → ℕ → Grade C
graded k price trace [] r c = Open k.zero
graded k price [] (e ∷ es) r c = Open k.zero
graded k price (p ∷ ps) (e ∷ es) r c =
    cond (e == r) (add_grade k (price p c) (graded k price ps es r c)) (graded k price ps es r c)

-- the table that sums the prices of its places
abbrev pub summing : {C : Type 0} → Kind C → (ℕ → ℕ → Grade C) → ℕ → List ℕ → List ℕ → Table C
summing k price size trace window = record {
  size = size;
  places = length trace;
  window = window;
  pairing = graded k price trace;
}

-- each number is one of 1 to s
abbrev pub all_within : ℕ → List ℕ → Bool
all_within s ns = list_all (within s) ns

-- what making a table answers: 6 for the size, 7 for the trace, 8 for the pricing (its delta), in that order;
-- otherwise the table with an empty window
abbrev pub make_answer : {C : Type 0} → Kind C → (ℕ → ℕ → Grade C) → Bool → ℕ → List ℕ → Result (Table C) ℕ
make_answer k price usable size trace =
    cond (within max_size size)
    (cond (within max_places (length trace) && all_within size trace)
    (cond usable (Ok (summing k price size trace [])) (Err 8))
    (Err 7))
    (Err 6)
