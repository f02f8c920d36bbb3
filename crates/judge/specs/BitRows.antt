-- Bit rows: sets of events or numbers, one bit each.
use Rattle.std.specs.Prelude.{◌≡◌, ℕ, ◌-◌, ◌≤◌, Bool, List, ◌==◌, count_ones, slice_index}
use Rattle.std.specs.Int.{bit_at}
use Rattle.tables.specs.Table.{Within}
use Rattle.tables.specs.declared.grade.Grade.{Grade}
use Rattle.judge.specs.Allowed.{opens}

-- the row has the place k (places count from 0)
abbrev pub Has : ℕ → ℕ → Type 0
Has row k = bit_at row k ≡ 1

-- each place of the one is a place of the other
abbrev pub Sub : ℕ → ℕ → Type 0
Sub a b = (k : ℕ) → Has a k → Has b k

-- the rest has no place that was not left before, and no more of them
pub record Narrowed (left rest : ℕ) : Type 0 where
  pub inner : Sub rest left
  pub fewer : count_ones rest ≤ count_ones left

-- the two have no place in common
abbrev pub Shut : ℕ → ℕ → Type 0
Shut row rest = (k : ℕ) → Has row k → Has rest k → ⊥

-- the row has the event or number n (these count from 1)
abbrev pub stands_in : ℕ → ℕ → Bool
stands_in row n = bit_at row (n - 1) == 1

-- number c is open to event r
abbrev pub open_in : List ℕ → ℕ → ℕ → Bool
open_in rows r c = stands_in (slice_index rows (r - 1)) c

-- the rows say which pairs are open
abbrev pub Agrees : {C : Type 0} → List ℕ → (ℕ → ℕ → Grade C) → ℕ → Type 0
Agrees rows g s = (r c : ℕ) → Within s r → Within s c → open_in rows r c ≡ opens g r c
