-- The rows of all events in one list: row by row, and while a window is walked over once.
use Rattle.std.proofs.Common.{◌≡◌, ℕ, ◌+◌, ◌-◌, ◌*◌, ◌<◌, ◌≤◌, List, ◌++◌, length, get_or, take, drop, sym, ap, ◌∙◌, inl, inr, arith}
use borrow.Rule.Slice.PartMut.{put_mid, post_of}
use Rattle.std.specs.List.{between}
use Rattle.std.proofs.lemmas.Nat.{mul-add-lt}
use Rattle.std.proofs.lemmas.List.Edits.{length-between, get_or-between}
use Rattle.std.proofs.lemmas.List.{get_or_append_left, get_or-append_right, get_or-take, get_or-drop, length-take-le}
use Rattle.std.proofs.lemmas.Slice.{drop-put_mid}
use Rattle.std.proofs.lemmas.Bool.{cases_lt, cases_eq}
use Rattle.costs.specs.Kind.{Kind}
use Rattle.tables.specs.Rows.{Placed}
use Rattle.tables.specs.Summing.{add_grade, graded}
use Rattle.tables.specs.Table.{Table, Within, pair_at, row_at}
use Rattle.tables.specs.declared.grade.Grade.{Grade}
use Rattle.tables.specs.declared.grade.Grade.TheVariants.{Closed}
use Rattle.tables.specs.Graded.{graded_skip, graded_add}
use Rattle.tables.proofs.Rows.{row_length, row_place}

-- an element after a part of the list was written
module _ {X : Type 0} (a k : ℕ) (xs ys : List X) (inside : a ≤ length xs) where
  part_below : (i : ℕ) (d : X) → i < a → get_or (put_mid a k xs ys) i d ≡ get_or xs i d
  part_below i d h =
      let long = length-take-le a xs inside in
      get_or_append_left (take a xs) (ys ++ post_of a k xs) d i (omega arith) ∙ get_or-take a xs i d h

  part_here : (i j : ℕ) (d : X) → i ≡ a + j → j < length ys → get_or (put_mid a k xs ys) i d ≡ get_or ys j d
  part_here i j d e h =
      let back : i - a ≡ j = omega arith in
      get_or-append_right (take a xs) (ys ++ post_of a k xs) a i d (length-take-le a xs inside) (omega arith)
      ∙ ap (λ (z : ℕ). get_or (ys ++ post_of a k xs) z d) back ∙ get_or_append_left ys (post_of a k xs) d j h

  part_above : (i : ℕ) (d : X) → length ys ≡ k → a + k ≤ i → get_or (put_mid a k xs ys) i d ≡ get_or xs i d
  part_above i d long h =
      let at : i + 0 ≡ i = omega arith in
      ap (λ (z : ℕ). get_or (put_mid a k xs ys) z d) (sym at)
      ∙ sym (get_or-drop i (put_mid a k xs ys) 0 d)
      ∙ ap (λ (l : List X). get_or l 0 d) (drop-put_mid a k xs ys i h inside long)
      ∙ get_or-drop i xs 0 d
      ∙ ap (λ (z : ℕ). get_or xs z d) at

-- place c - 1 of row r - 1
abbrev cell : ℕ → ℕ → ℕ → ℕ
cell s r c = (r - 1) * s + (c - 1)

module _ {C : Type 0} (t : Table C) where
  -- the first n rows are written
  abbrev pub RowsTo : ℕ → List (Grade C) → Type 0
  RowsTo n grades = (r c : ℕ) → Within n r → Within t.size c → get_or grades (cell t.size r c) Closed ≡ pair_at t r c

  -- one row more
  pub rows_more : (n top k m : ℕ) (grades ys : List (Grade C)) → top ≡ t.size → n * top ≤ length grades → m ≡ top → ys ≡ row_at t (n + 1) m → RowsTo n grades → RowsTo (n + 1) (put_mid (n * top) k grades ys)
  rows_more n top k m grades ys size inside same is to r c rin cin =
      let s = t.size in
      let from : n * top ≡ n * s = ap (λ (z : ℕ). n * z) size in
      let full : ys ≡ row_at t (n + 1) s = is ∙ ap (row_at t (n + 1)) (same ∙ size) in
      let long : length ys ≡ s = ap length full ∙ row_length t (n + 1) s in
      elim (cases_eq r (n + 1)) [
        | inl e ↦
            (let row : (r - 1) * s ≡ n * s = ap (λ (z : ℕ). z * s) (omega (arith, e)) in
            let up : c - 1 + 1 ≡ c = omega (arith, cin) in
            part_here (n * top) k grades ys inside (cell s r c) (c - 1) Closed (omega arith) (omega (arith, cin))
            ∙ ap (λ (l : List (Grade C)). get_or l (c - 1) Closed) full
            ∙ row_place t (n + 1) s (c - 1) Closed (omega (arith, cin))
            ∙ ap (pair_at t (n + 1)) up
            ∙ ap (λ (z : ℕ). pair_at t z c) (sym e))
        | inr other ↦
            (let rin' : Within n r = (omega (arith, rin), omega (arith, rin, other)) in
            part_below (n * top) k grades ys inside (cell s r c) Closed (omega (arith, mul-add-lt (r - 1) s (c - 1) n (omega (arith, rin')) (omega (arith, cin)))) ∙ to r c rin' cin)
      ]

-- one walk over the window
module _ {C : Type 0} (k : Kind C) (price : ℕ → ℕ → Grade C) (s : ℕ) (ps es : List ℕ) where
  -- the places from j on are added up
  abbrev pub GridFrom : ℕ → List (Grade C) → Type 0
  GridFrom j grades = (r c : ℕ) → Within s r → Within s c → get_or grades (cell s r c) Closed ≡ graded k price (drop j ps) (drop j es) r c

  pub grid_adds : length es ≤ length ps → (j : ℕ) → 0 < j → j ≤ length es → (e : ℕ) → Within s e → get_or es (j - 1) 0 ≡ e
      → (m : ℕ) (grades ys : List (Grade C)) → length grades ≡ s * s → m ≡ (e - 1) * s + s
      → Placed k (price (get_or ps (j - 1) 0)) s (between ((e - 1) * s) m grades) ys → GridFrom j grades → GridFrom (j - 1) (put_mid ((e - 1) * s) (m - (e - 1) * s) grades ys)
  grid_adds few j some to e ein is m grades ys whole end p from r c rin cin =
      let a = (e - 1) * s in
      let next : j - 1 + 1 ≡ j = omega arith in
      let p-in : j - 1 < length ps = omega arith in
      let e-in : j - 1 < length es = omega arith in
      let last-cell = mul-add-lt (e - 1) s (s - 1) s (omega (arith, ein)) (omega (arith, ein)) in
      let inside : m ≤ length grades = omega (arith, ein) in
      let part = length-between grades a m inside in
      let long : length ys ≡ m - a = p.whole ∙ part in
      let number = get_or ps (j - 1) 0 in
      elim (cases_eq r e) [
        | inl same ↦
            (let row : (r - 1) * s ≡ a = ap (λ (z : ℕ). (z - 1) * s) same in
            let up : c - 1 + 1 ≡ c = omega (arith, cin) in
            let at : a + (c - 1) ≡ cell s r c = omega arith in
            part_here a (m - a) grades ys (omega arith) (cell s r c) (c - 1) Closed (sym at) (omega (arith, cin))
            ∙ p.inside (c - 1) (omega (arith, cin)) (omega (arith, cin))
            ∙ ap (add_grade k (price number (c - 1 + 1))) (get_or-between grades a m (c - 1) Closed (omega (arith, cin)) ∙ ap (λ (z : ℕ). get_or grades z Closed) at ∙ from r c rin cin)
            ∙ ap (λ (z : ℕ). add_grade k (price number z) (graded k price (drop j ps) (drop j es) r c)) up
            ∙ sym (graded_add k price r c ps es (j - 1) j next p-in e-in (is ∙ sym same)))
        | inr other ↦
            (let stays : get_or (put_mid a (m - a) grades ys) (cell s r c) Closed ≡ get_or grades (cell s r c) Closed = elim (cases_lt r e) [
              | inl lt ↦ part_below a (m - a) grades ys (omega arith) (cell s r c) Closed (omega (arith, mul-add-lt (r - 1) s (c - 1) (e - 1) (omega (arith, lt, rin)) (omega (arith, cin))))
              | inr ge ↦ part_above a (m - a) grades ys (omega arith) (cell s r c) Closed long (omega (arith, mul-add-lt (e - 1) s (s - 1) (r - 1) (omega (arith, ge, other, ein)) (omega (arith, ein)), ein))
            ] in
            stays ∙ from r c rin cin ∙ sym (graded_skip k price r c ps es (j - 1) j next p-in e-in (λ q. other (sym q ∙ is))))
      ]
