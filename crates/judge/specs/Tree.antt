-- The search for a number for event r, as it stands after t numbers are done.
use Rattle.std.specs.Prelude.{◌≡◌, ℕ, ◌+◌, ◌*◌, ◌<◌, ◌≤◌, Bool, true, false, List, length, Some, Option}
use Rattle.std.specs.List.{AllByRecursion}
use Rattle.costs.specs.Kind.{Kind, AtMost}
use Rattle.costs.specs.Lists.{In, Apart}
use Rattle.tables.specs.Table.{Within}
use Rattle.tables.specs.declared.grade.Grade.{Grade}
use Rattle.tables.specs.declared.grade.Grade.TheVariants.{Open}
use Rattle.judge.specs.Seating.{Joined, Seating}

-- number j has the path p, and its key is the least among the numbers that are not done
abbrev pub Nearest : {C : Type 0} → Kind C → ℕ → (ℕ → C) → (ℕ → Bool) → (ℕ → Option C) → ℕ → C → Type 0
Nearest {C} k s v done path j p =
    (done j ≡ false) × (path j ≡ Some p) × ((d : ℕ) → Within s d → done d ≡ false → (q : C) → path d ≡ Some q → AtMost k (k.minus p (v j)) (k.minus q (v d)))

module _ {C : Type 0} (k : Kind C) (g : ℕ → ℕ → Grade C) (s : ℕ) where
  -- after t numbers done: the events inside are r and the holders of numbers done, each with a lead; paths are least among ways over them
  pub record Tree (t r : ℕ) (holder : ℕ → ℕ) (v : ℕ → C) (inside done : ℕ → Bool) (path : ℕ → Option C) (lead : ℕ → C) : Type 0 where
    pub root : inside r ≡ true
    pub done_held : (c : ℕ) → Within s c → done c ≡ true → (1 ≤ holder c) × (inside (holder c) ≡ true) × (p : C) × (path c ≡ Some p) × (x : C) × (g (holder c) c ≡ Open x) × (lead (holder c) ≡ k.minus p x)
    pub inside_done : (c : ℕ) → Within s c → 1 ≤ holder c → inside (holder c) ≡ true → done c ≡ true
    pub reach : (i c : ℕ) → Within s i → inside i ≡ true → Within s c → (x : C) → g i c ≡ Open x → (p : C) × (path c ≡ Some p) × AtMost k p (k.plus (lead i) x)
    pub order : (c d : ℕ) → Within s c → Within s d → done c ≡ true → done d ≡ false → (p q : C) → path c ≡ Some p → path d ≡ Some q → AtMost k (k.minus p (v c)) (k.minus q (v d))
    pub small_path : (c : ℕ) → Within s c → (p : C) → path c ≡ Some p → k.span p ≤ t * 200000 + 100000
    pub small_lead : (i : ℕ) → Within s i → inside i ≡ true → k.span (lead i) ≤ t * 200000

  -- by c is the event over which the path to c goes; rank c is how many numbers were done before c; seen lists the numbers done
  pub record Trail (t r : ℕ) (seat holder : ℕ → ℕ) (inside done : ℕ → Bool) (path : ℕ → Option C) (lead : ℕ → C) (by rank : ℕ → ℕ) (seen : List ℕ) : Type 0 where
    pub by_in : (c : ℕ) → Within s c → (p : C) → path c ≡ Some p → Within s (by c) × (inside (by c) ≡ true) × (x : C) × (g (by c) c ≡ Open x) × (p ≡ k.plus (lead (by c)) x)
    pub falls : (c d : ℕ) → Within s c → Within s d → done c ≡ true → done d ≡ true → holder d ≡ by c → rank d < rank c
    pub ranked : (c : ℕ) → Within s c → done c ≡ true → rank c < t
    pub upto : (i : ℕ) → inside i ≡ true → Within s i × Joined seat r i
    pub many : length seen ≡ t
    pub apart : Apart seen
    pub all_within : AllByRecursion (Within s) seen
    pub seen_done : (c : ℕ) → In c seen → done c ≡ true

  -- the search goes on: what it keeps (done, path, by) belongs to some tree and trail over some seating
  pub record Going (t r : ℕ) (seat holder : ℕ → ℕ) (v : ℕ → C) (done : ℕ → Bool) (path : ℕ → Option C) (by : ℕ → ℕ) : Type 0 where
    pub u : ℕ → C
    pub inside : ℕ → Bool
    pub lead : ℕ → C
    pub rank : ℕ → ℕ
    pub seen : List ℕ
    pub within : Within s r
    pub unseated : seat r ≡ 0
    pub seating : Seating k g s seat holder u v
    pub tree : Tree t r holder v inside done path lead
    pub trail : Trail t r seat holder inside done path lead by rank seen
