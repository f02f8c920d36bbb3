-- The way to a free number is turned over: each event on it takes the number that it found.
use Rattle.std.specs.Prelude.{◌≡◌, ℕ, ◌<◌, ◌≤◌, Bool, true, ◌≢◌}
use Rattle.costs.specs.Kind.{Kind, AtMost}
use Rattle.tables.specs.Table.{Within}
use Rattle.tables.specs.declared.grade.Grade.{Grade}
use Rattle.tables.specs.declared.grade.Grade.TheVariants.{Open}
use Rattle.judge.specs.Seating.{Small, Joined, Fit}

module _ {C : Type 0} (k : Kind C) (g : ℕ → ℕ → Grade C) (s r : ℕ) (seat₀ h₀ : ℕ → ℕ) (a w : ℕ → C) (inside done : ℕ → Bool) (by rank : ℕ → ℕ) where
  -- what the search leaves, at the new prices: each number done was found by an event inside, which holds a number done earlier or is r
  pub record Ways : Type 0 where
    pub found : (c : ℕ) → Within s c → done c ≡ true → Within s (by c) × (inside (by c) ≡ true) × Fit k g s a w (by c) c
    pub falls : (c d : ℕ) → Within s c → Within s d → done c ≡ true → done d ≡ true → h₀ d ≡ by c → rank d < rank c
    pub holder : (i : ℕ) → Within s i → inside i ≡ true → (i ≢ r) → Within s (seat₀ i) × (done (seat₀ i) ≡ true) × (h₀ (seat₀ i) ≡ i)

  -- on the way: number j stands open for the event it was found by
  pub record Hole (seat h : ℕ → ℕ) (j b : ℕ) : Type 0 where
    pub within : Within s j
    pub seat_within : (i : ℕ) → Within s i → seat i ≤ s
    pub holder_within : (c : ℕ) → Within s c → (c ≢ j) → h c ≤ s
    pub seat_holder : (i : ℕ) → Within s i → 1 ≤ seat i → (seat i ≢ j) × (h (seat i) ≡ i)
    pub holder_seat : (c : ℕ) → Within s c → (c ≢ j) → 1 ≤ h c → seat (h c) ≡ c
    pub fit : (c : ℕ) → Within s c → (c ≢ j) → 1 ≤ h c → Fit k g s a w (h c) c
    pub free : (c : ℕ) → Within s c → (c ≢ j) → h c ≡ 0 → w c ≡ k.zero
    pub next : Within s (by j) × (inside (by j) ≡ true) × Fit k g s a w (by j) j
    pub kept : (c : ℕ) → Within s c → done c ≡ true → rank c < b → (h c ≡ h₀ c) × (c ≢ j)
    pub lower : (d : ℕ) → Within s d → done d ≡ true → h₀ d ≡ by j → rank d < b
    pub same_seated : (i : ℕ) → Within s i → (1 ≤ seat₀ i → 1 ≤ seat i) × (1 ≤ seat i → 1 ≤ seat₀ i)

-- the turning goes on: number j stands open, seat₀ are the seats at its start, w the new prices of numbers
pub record Turning {C : Type 0} (k : Kind C) (g : ℕ → ℕ → Grade C) (s b r : ℕ) (seat₀ seat h : ℕ → ℕ) (w : ℕ → C) (by : ℕ → ℕ) (j : ℕ) : Type 0 where
  pub h₀ : ℕ → ℕ
  pub a : ℕ → C
  pub inside : ℕ → Bool
  pub done : ℕ → Bool
  pub rank : ℕ → ℕ
  pub ways : Ways k g s r seat₀ h₀ a w inside done by rank
  pub hole : Hole k g s r seat₀ h₀ a w inside done by rank seat h j b
  pub unseated : seat₀ r ≡ 0
  pub under : (i c : ℕ) → Within s i → Joined seat₀ r i → Within s c → (x : C) → g i c ≡ Open x → AtMost k (k.plus (a i) (w c)) x
  pub small_a : (i : ℕ) → Within s i → Joined seat₀ r i → Small k (a i)
  pub small_w : (c : ℕ) → Within s c → Small k (w c)
