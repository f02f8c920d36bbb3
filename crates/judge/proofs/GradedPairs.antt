-- The grades of all pairs as they are read: the grid at its place, and its bit rows of open numbers.
use Rattle.std.proofs.Common.{◌≡◌, ℕ, suc, ◌+◌, ◌-◌, ◌*◌, ◌^◌, ◌<◌, ◌≤◌, List, ◌++◌, length, get_or, set, sym, ap, ◌∙◌, subst, arith}
use Rattle.std.specs.List.{between}
use Rattle.std.proofs.lemmas.List.Edits.{length-between}
use Rattle.std.proofs.lemmas.Nat.{mul-add-lt}
use Rattle.std.proofs.lemmas.List.{length-set, get_or_append_left}
use Rattle.tables.specs.Table.{Table, Within, pair_at, GridOf}
use Rattle.tables.specs.declared.grade.Grade.{Grade}
use Rattle.tables.specs.declared.grade.Grade.TheVariants.{Closed}
use Rattle.judge.specs.Allowed.{is_open}
use Rattle.judge.specs.BitRows.{stands_in}
use Rattle.judge.specs.Grades.{grade_in}
use Rattle.judge.specs.Rows.{listed}
use Rattle.judge.proofs.Written.{listed_next, written_more}

module _ {C : Type 0} (grades : List (Grade C)) (s : ℕ) where
  -- the row of open numbers of event r
  abbrev pub RowOf : ℕ → ℕ → Type 0
  RowOf r row = ((c : ℕ) → Within s c → stands_in row c ≡ is_open (grade_in grades s r c)) × (row < 2 ^ s)

  -- the rows of the first n events
  pub record RowsTo (n : ℕ) (rows : List ℕ) : Type 0 where
    pub wide : s ≤ length rows
    pub rows_of : (r : ℕ) → Within n r → RowOf r (listed rows 0 r)

  -- one row more, of the grades of event n + 1
  pub rows_more : (n : ℕ) (rows : List ℕ) (row : ℕ) (part : List (Grade C)) → n < s → length part ≡ s → ((c : ℕ) → Within s c → listed part Closed c ≡ grade_in grades s (suc n) c)
      → ((c : ℕ) → Within (length part) c → stands_in row c ≡ is_open (listed part Closed c)) → row < 2 ^ length part
      → RowsTo n rows → RowsTo (n + 1) (set rows n row)
  rows_more n rows row part h long is bits below to =
      let wide = to.wide in
      let up : suc n ≡ n + 1 = omega arith in
      record {
        wide = omega (arith, length-set rows n row);
        rows_of = written_more RowOf rows n 0 row (omega arith) to.rows_of ((λ c w. bits c (omega (arith, w)) ∙ ap is_open (is c w ∙ ap (λ (r : ℕ). grade_in grades s r c) up)), subst (λ (z : ℕ). row < 2 ^ z) long below);
      }

  -- all rows, at the start of a longer list
  pub rows_first : (n : ℕ) (rows rest : List ℕ) → n ≡ s → RowsTo n rows → (r : ℕ) → r < s → RowOf (r + 1) (get_or (rows ++ rest) r 0)
  rows_first n rows rest all to r h =
      let wide = to.wide in
      subst (RowOf (r + 1)) (sym (get_or_append_left rows rest 0 r (omega arith) ∙ sym (listed_next rows 0 r))) (to.rows_of (r + 1) (omega arith))

-- the grid of a table at the start of a longer list
pub graded_first : {C : Type 0} (t : Table C) (s : ℕ) (ys rest : List (Grade C)) → s ≡ t.size → length ys ≡ s * s → GridOf t ys → (r c : ℕ) → Within s r → Within s c → grade_in (ys ++ rest) s r c ≡ pair_at t r c
graded_first t s ys rest size whole grid r c rin cin =
    get_or_append_left ys rest Closed ((r - 1) * s + (c - 1)) (omega (arith, mul-add-lt (r - 1) s (c - 1) s (omega (arith, rin)) (omega (arith, cin))))
    ∙ ap (λ (z : ℕ). get_or ys ((r - 1) * z + (c - 1)) Closed) size
    ∙ grid r c (subst (λ (z : ℕ). Within z r) size rin) (subst (λ (z : ℕ). Within z c) size cin)

-- the same, of the part of the list that the grid is written to
pub graded_front : {C : Type 0} (t : Table C) (s : ℕ) (xs ys rest : List (Grade C)) → s ≡ t.size → s * s ≤ length xs → length ys ≡ length (between 0 (s * s) xs)
    → (length (between 0 (s * s) xs) ≡ t.size * t.size → GridOf t ys) → (r c : ℕ) → Within s r → Within s c → grade_in (ys ++ rest) s r c ≡ pair_at t r c
graded_front t s xs ys rest size inside same grid =
    let part = length-between xs 0 (s * s) inside in
    let given : length (between 0 (s * s) xs) ≡ t.size * t.size = part ∙ omega arith ∙ ap (λ (n : ℕ). n * n) size in
    graded_first t s ys rest size (omega (arith, same, part)) (grid given)
