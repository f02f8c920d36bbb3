-- All renumberings, in dictionary order.
use Rattle.std.specs.Prelude.{ℕ, zero, suc, List, [], ◌∷◌, ◌++◌, map}
use Rattle.costs.specs.Lists.{without}
use Rattle.judge.specs.Renumbering.{up_to}

-- each entry of ys put before what f makes of xs without it
abbrev pub headed : (List ℕ → List (List ℕ)) → List ℕ → List ℕ → List (List ℕ)
headed f xs [] = []
headed f xs (y ∷ ys) = map (λ (l : List ℕ). y ∷ l) (f (without y xs)) ++ headed f xs ys

-- the lists of n entries of xs, no entry twice
abbrev pub arrangements : ℕ → List ℕ → List (List ℕ)
arrangements zero xs = [] ∷ []
arrangements (suc n) xs = headed (arrangements n) xs xs

-- all renumberings of s events
abbrev pub renumberings : ℕ → List (List ℕ)
renumberings s = arrangements s (up_to s)
