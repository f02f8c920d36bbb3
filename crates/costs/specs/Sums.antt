-- Sums of costs over a list. What bounds a sum is the sum of its spans.
use Rattle.std.specs.Prelude.{ℕ, ◌+◌, List, [], ◌∷◌}
use Rattle.costs.specs.Kind.{Kind}

-- the sum of f over a list
abbrev pub sum_of : {C X : Type 0} → Kind C → (X → C) → List X → C
sum_of k f [] = k.zero
sum_of k f (x ∷ xs) = k.plus (f x) (sum_of k f xs)

-- the spans of f over a list, added up
abbrev pub spans : {C X : Type 0} → Kind C → (X → C) → List X → ℕ
spans k f [] = 0
spans k f (x ∷ xs) = k.span (f x) + spans k f xs
