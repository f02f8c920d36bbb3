-- Some events have numbers, and prices that fit: seat i is the number of event i, 0 for none; holder c is the event of number c, 0 for none.
use Rattle.std.specs.Prelude.{◌≡◌, ℕ, ◌≤◌, cond, ◌⊎◌, ◌==◌}
use Rattle.costs.specs.Kind.{Kind, AtMost}
use Rattle.tables.specs.Table.{Within}
use Rattle.tables.specs.declared.grade.Grade.{Grade}
use Rattle.tables.specs.declared.grade.Grade.TheVariants.{Open}

-- a cost of which some dozens can be added
abbrev pub Small : {C : Type 0} → Kind C → C → Type 0
Small k x = k.span x ≤ 1000000000

-- f, but y at i
abbrev pub put : {X : Type 0} → (ℕ → X) → ℕ → X → ℕ → X
put f i y c = cond (c == i) y (f c)

-- event i is r, or has a number
abbrev pub Joined : (ℕ → ℕ) → ℕ → ℕ → Type 0
Joined seat r i = (i ≡ r) ⊎ (1 ≤ seat i)

module _ {C : Type 0} (k : Kind C) (g : ℕ → ℕ → Grade C) (s : ℕ) where
  -- the pair is open, and its two prices come to just its cost
  abbrev pub Fit : (ℕ → C) → (ℕ → C) → ℕ → ℕ → Type 0
  Fit u v i c = (x : C) × (g i c ≡ Open x) × (k.plus (u i) (v c) ≡ x)

  -- seat and holder say the same; the prices u of seated events and v of all numbers come to at most each cost, and to just that of a pair in use
  pub record Seating (seat holder : ℕ → ℕ) (u v : ℕ → C) : Type 0 where
    pub seat_within : (i : ℕ) → Within s i → seat i ≤ s
    pub holder_within : (c : ℕ) → Within s c → holder c ≤ s
    pub seat_holder : (i : ℕ) → Within s i → 1 ≤ seat i → holder (seat i) ≡ i
    pub holder_seat : (c : ℕ) → Within s c → 1 ≤ holder c → seat (holder c) ≡ c
    pub under : (i c : ℕ) → Within s i → 1 ≤ seat i → Within s c → (x : C) → g i c ≡ Open x → AtMost k (k.plus (u i) (v c)) x
    pub tight : (c : ℕ) → Within s c → 1 ≤ holder c → Fit u v (holder c) c
    pub free : (c : ℕ) → Within s c → holder c ≡ 0 → v c ≡ k.zero
    pub small_u : (i : ℕ) → Within s i → 1 ≤ seat i → Small k (u i)
    pub small_v : (c : ℕ) → Within s c → Small k (v c)

  -- the same events are seated, and r too
  abbrev pub SeatsOneMore : (ℕ → ℕ) → ℕ → (ℕ → ℕ) → Type 0
  SeatsOneMore seat r seat' = (i : ℕ) → Within s i → (Joined seat r i → 1 ≤ seat' i) × (1 ≤ seat' i → Joined seat r i)
