-- Rows of grades, place c - 1 for number c, while the places of a window are added up.
use Rattle.std.specs.Prelude.{◌≡◌, ℕ, ◌+◌, ◌<◌, ◌≤◌, cond, List, length, ◌==◌, slice_index_or}
use Rattle.costs.specs.Kind.{Kind}
use Rattle.tables.specs.Summing.{add_grade}
use Rattle.tables.specs.declared.grade.Grade.{Grade}
use Rattle.tables.specs.declared.grade.Grade.TheVariants.{Closed, Open}

-- a row of n places: the first ones open at zero, as many as s says, the others closed
pub record Started {C : Type 0} (k : Kind C) (s n : ℕ) (row : List (Grade C)) : Type 0 where
  pub whole : length row ≡ n
  pub inside : (j : ℕ) → j < n → j < s → slice_index_or row j Closed ≡ Open k.zero
  pub beyond : (j : ℕ) → j < n → s ≤ j → slice_index_or row j Closed ≡ Closed

-- a price is added at each number up to the size, and the rest stays
pub record Placed {C : Type 0} (k : Kind C) (price : ℕ → Grade C) (size : ℕ) (before after : List (Grade C)) : Type 0 where
  pub whole : length after ≡ length before
  pub inside : (j : ℕ) → j < length before → j < size → slice_index_or after j Closed ≡ add_grade k (price (j + 1)) (slice_index_or before j Closed)
  pub beyond : (j : ℕ) → size ≤ j → slice_index_or after j Closed ≡ slice_index_or before j Closed

-- the first n places are closed but for that of the number, and the rest stays
pub record PinnedRow {C : Type 0} (number n : ℕ) (before after : List (Grade C)) : Type 0 where
  pub whole : length after ≡ length before
  pub inside : (j : ℕ) → j < n → slice_index_or after j Closed ≡ cond (number == j + 1) (slice_index_or before j Closed) Closed
  pub beyond : (j : ℕ) → n ≤ j → slice_index_or after j Closed ≡ slice_index_or before j Closed
