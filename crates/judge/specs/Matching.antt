-- Who holds which number, by places that count from 0.
use Rattle.std.specs.Prelude.{◌≡◌, ℕ, ◌-◌, ◌<◌, Bool, true, List, length, Some, None, Option, slice_index, slice_index_or}
use Rattle.tables.specs.Limits.{max_size}
use Rattle.tables.specs.Table.{Within}
use Rattle.judge.specs.Renumbering.{Renumbering}
use Rattle.judge.specs.BitRows.{Has, Shut}

-- number c is held by event e
abbrev pub Holds : List (Option ℕ) → ℕ → ℕ → Type 0
Holds holders e c = slice_index_or holders c None ≡ Some e

-- event e holds some number
abbrev pub Seated : List (Option ℕ) → ℕ → Type 0
Seated holders e = (c : ℕ) × Holds holders e c

-- just the events below n hold a number
abbrev pub Filled : List (Option ℕ) → ℕ → Type 0
Filled holders n = (e : ℕ) → (e < n → Seated holders e) × (Seated holders e → e < n)

-- each number has a place, each held number is open to its holder, and no event holds two
pub record Placed (rows : List ℕ) (holders : List (Option ℕ)) : Type 0 where
  pub long : length holders ≡ max_size
  pub sound : (e c : ℕ) → Holds holders e c → Has (slice_index rows e) c
  pub once : (e c d : ℕ) → Holds holders e c → Holds holders e d → c ≡ d

-- the number has a holder, to whom no number of the rest is open
abbrev pub Stuck : List ℕ → List (Option ℕ) → ℕ → ℕ → Type 0
Stuck rows holders rest c = (e : ℕ) × Holds holders e c × Shut (slice_index rows e) rest

-- each number that was left and is not among the rest is stuck
abbrev pub Tried : List ℕ → List (Option ℕ) → ℕ → ℕ → Type 0
Tried rows holders left rest = (c : ℕ) → Has left c → (Has rest c → ⊥) → Stuck rows holders rest c

-- there is a renumbering along open pairs
abbrev pub Renumbered : (ℕ → ℕ → Bool) → ℕ → Type 0
Renumbered open_at s = (ns : List ℕ) × Renumbering s ns × ((r : ℕ) → Within s r → open_at r (slice_index ns (r - 1)) ≡ true)
