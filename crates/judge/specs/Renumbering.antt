-- Renumberings: the house numbers of events 1 to s, no number twice.
use Rattle.std.specs.Prelude.{◌≡◌, ℕ, ◌+◌, List, [], ◌∷◌, length}
use Rattle.std.specs.List.{range_with_len, AllByRecursion}
use Rattle.costs.specs.Lists.{Apart}
use Rattle.tables.specs.Table.{Within}

-- the numbers 1 to s
abbrev pub up_to : ℕ → List ℕ
up_to s = range_with_len 1 s

-- s numbers from 1 to s, no two the same: the first is that of event 1
abbrev pub Renumbering : ℕ → List ℕ → Type 0
Renumbering s ns = (length ns ≡ s) × AllByRecursion (Within s) ns × Apart ns

-- events r, r + 1, .. with the numbers of the list
abbrev pub pairs_from : ℕ → List ℕ → List (ℕ × ℕ)
pairs_from r [] = []
pairs_from r (c ∷ cs) = (r, c) ∷ pairs_from (r + 1) cs

-- each event with its number
abbrev pub pairs : List ℕ → List (ℕ × ℕ)
pairs ns = pairs_from 1 ns
