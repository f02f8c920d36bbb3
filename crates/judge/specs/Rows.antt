-- What lists say of numbers and events, at place c - 1 for number c, and what one turn of a search makes of it.
use Rattle.std.specs.Prelude.{◌≡◌, ℕ, suc, ◌-◌, ◌<◌, Bool, true, false, cond, List, Some, None, Option, ◌≢◌, slice_index_or}
use Rattle.costs.specs.Kind.{Kind, AtMost}
use Rattle.tables.specs.Table.{Within}
use Rattle.tables.specs.declared.grade.Grade.{Grade}
use Rattle.tables.specs.declared.grade.Grade.TheVariants.{Closed, Open}
use Rattle.judge.specs.Search.{relax, better}
use Rattle.judge.specs.Tree.{Nearest}

-- f and e are the same at 1 to s
abbrev pub Agree : {X : Type 0} → ℕ → (ℕ → X) → (ℕ → X) → Type 0
Agree s f e = (c : ℕ) → Within s c → f c ≡ e c

-- f and e are the same past s
abbrev pub AgreePast : {X : Type 0} → ℕ → (ℕ → X) → (ℕ → X) → Type 0
AgreePast s f e = (c : ℕ) → s < c → f c ≡ e c

-- what a list says of number c, or of event c
abbrev pub listed : {X : Type 0} → List X → X → ℕ → X
listed xs d c = slice_index_or xs (c - 1) d

-- the cost that a list says of number c
abbrev pub listed_cost : {C : Type 0} → Kind C → List C → ℕ → C
listed_cost k xs = listed xs k.zero

-- the number, or 0 for none
abbrev pub or_none : Option ℕ → ℕ
or_none None = 0
or_none (Some n) = n

-- the number that a list says of c, or 0 for none
abbrev pub listed_or_none : List (Option ℕ) → ℕ → ℕ
listed_or_none xs c = or_none (slice_index_or xs (c - 1) None)

-- a path counts where some event found it
abbrev pub path_by : {C : Type 0} → Option ℕ → C → Option C
path_by None p = None
path_by (Some i) p = Some p

-- the path over an event with lead l, where that is less than the one known
abbrev pub shorter : {C : Type 0} → Kind C → Option C → Grade C → C → Option C
shorter k known Closed l = None
shorter k None (Open x) l = Some (k.plus l x)
shorter k (Some q) (Open x) l = cond (k.at_most q (k.plus l x)) None (Some (k.plus l x))

-- the paths after the row of event i with lead l was gone over
abbrev pub gone_over : {C : Type 0} → Kind C → (ℕ → ℕ → Grade C) → ℕ → C → (ℕ → Bool) → (ℕ → Option C) → ℕ → Option C
gone_over k g i l done path c = cond (done c) (path c) (relax k (path c) (g i c) l)

-- the events that found the paths, after that
abbrev pub found_by : {C : Type 0} → Kind C → (ℕ → ℕ → Grade C) → ℕ → C → (ℕ → Bool) → (ℕ → Option C) → (ℕ → ℕ) → ℕ → ℕ
found_by k g i l done path by c = cond (done c) (by c) (cond (better k (path c) (g i c) l) i (by c))

-- no number that is not done has a path
abbrev pub NoneLeft : {C : Type 0} → ℕ → (ℕ → Bool) → (ℕ → Option C) → Type 0
NoneLeft {C} s done path = (d : ℕ) → Within s d → done d ≡ false → (q : C) → path d ≢ Some q

-- the place of the nearest number, where there is one
abbrev pub NearestPlace : {C : Type 0} → Kind C → ℕ → (ℕ → C) → (ℕ → Bool) → (ℕ → Option C) → Option ℕ → Type 0
NearestPlace k s v done path None = NoneLeft s done path
NearestPlace {C} k s v done path (Some j) = (j < s) × ((p : C) × Nearest k s v done path (suc j) p)

-- the key is no more than that of the best so far, or where the answer is no, that is no more than the key
abbrev pub Preferred : {C : Type 0} → Kind C → Option (ℕ × C) → C → Bool → Type 0
Preferred k None key b = b ≡ true
Preferred k (Some best) key true = AtMost k key best.1
Preferred k (Some best) key false = AtMost k best.1 key

-- the prices after a search that ended on a path of cost e: at each number done, its path cost less that
abbrev pub less_end : {C : Type 0} → Kind C → (ℕ → Bool) → (ℕ → C) → C → (ℕ → C) → ℕ → C
less_end k done path e v c = cond (done c) (k.minus (path c) e) (v c)
