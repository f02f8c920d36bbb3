-- Marks of a set of events, written into a list.
use Rattle.std.specs.Prelude.{◌≡◌, ℕ, ◌-◌, cond, List, drop, slice_index}
use Rattle.tables.specs.Table.{Within}
use Rattle.judge.specs.BitRows.{stands_in}

-- the mark of each event 1 to s is 1 where it stands in the set and 0 where not, and the rest of the list is as it was
pub record Written (set s : ℕ) (before after : List ℕ) : Type 0 where
  pub marks : (r : ℕ) → Within s r → slice_index after (r - 1) ≡ cond (stands_in set r) 1 0
  pub rest : drop s after ≡ drop s before
