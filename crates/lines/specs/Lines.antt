-- Lines of text as bytes: fields parted by single spaces, and a line feed at the end.
use Rattle.std.specs.Prelude.{◌≡◌, ℕ, List, [], ◌∷◌, ◌++◌, OnOk, string_bytes, Result, String}
use Rattle.std.specs.List.{flat_map}
use Rattle.std.specs.declared.alloc.AllocError.{AllocError}
use Rattle.std.specs.declared.alloc.Global.{Global}

-- each field after one space
abbrev pub spaced : List (List ℕ) → List ℕ
spaced fields = flat_map (λ field. 32 ∷ field) fields

-- the first field, the others each after one space, and a line feed
abbrev pub line : List (List ℕ) → List ℕ
line [] = 10 ∷ []
line (field ∷ fields) = field ++ (spaced fields ++ 10 ∷ [])

-- where there was memory enough, these bytes were added at the end of a text
abbrev pub Adds : Result (Unit {0}) AllocError → String Global → String Global → List ℕ → Type 0
Adds result old new bytes = OnOk result (string_bytes new ≡ string_bytes old ++ bytes)
