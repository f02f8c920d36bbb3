-- The grades of all pairs, read one row after another. No code reads them so at present.
use Rattle.std.proofs.Common.{◌≡◌, ℕ, ◌+◌, ◌-◌, ◌*◌, ◌^◌, ◌<◌, ◌≤◌, List, ◌++◌, length, get_or, take, set, sym, ap, ◌∙◌, subst, arith}
use borrow.Rule.Slice.PartMut.{put_mid, post_of}
use Rattle.std.proofs.lemmas.Nat.{mul-add-lt}
use Rattle.std.proofs.lemmas.List.{get_or_append_left, get_or-append_right, get_or-take, length-take-le, length-set}
use Rattle.costs.specs.Kind.{Kind}
use Rattle.tables.specs.Table.{Table, Within, Sound, pair_at, row_at}
use Rattle.tables.specs.declared.grade.Grade.{Grade}
use Rattle.tables.specs.declared.grade.Grade.TheVariants.{Closed}
use Rattle.tables.proofs.Rows.{row_length, row_place}
use Rattle.judge.specs.Allowed.{is_open}
use Rattle.judge.specs.BitRows.{stands_in}
use Rattle.judge.specs.Grades.{grade_in}
use Rattle.judge.specs.Prices.{Bounded}
use Rattle.judge.specs.Rows.{listed}
use Rattle.judge.proofs.Bounds.{sound_bounded}
use Rattle.judge.proofs.Written.{within_more, written_more}

-- an element after a part of the list was written
module _ {X : Type 0} (a k : ℕ) (xs ys : List X) (inside : a ≤ length xs) where
  pub part_below : (i : ℕ) (d : X) → i < a → get_or (put_mid a k xs ys) i d ≡ get_or xs i d
  part_below i d h =
      let long = length-take-le a xs inside in
      get_or_append_left (take a xs) (ys ++ post_of a k xs) d i (omega arith) ∙ get_or-take a xs i d h

  pub part_here : (i j : ℕ) (d : X) → i ≡ a + j → j < length ys → get_or (put_mid a k xs ys) i d ≡ get_or ys j d
  part_here i j d e h =
      let back : i - a ≡ j = omega arith in
      get_or-append_right (take a xs) (ys ++ post_of a k xs) a i d (length-take-le a xs inside) (omega arith)
      ∙ ap (λ (z : ℕ). get_or (ys ++ post_of a k xs) z d) back ∙ get_or_append_left ys (post_of a k xs) d j h

module _ {C : Type 0} (t : Table C) (s : ℕ) where
  -- the row of open numbers of event r
  abbrev pub RowOf : ℕ → ℕ → Type 0
  RowOf r row = ((c : ℕ) → Within s c → stands_in row c ≡ is_open (pair_at t r c)) × (row < 2 ^ s)

  -- the first n events are graded
  pub record GradedTo (n : ℕ) (grades : List (Grade C)) (rows : List ℕ) : Type 0 where
    pub wide : length rows ≡ 32
    pub graded : (r : ℕ) → Within n r → (c : ℕ) → Within s c → grade_in grades s r c ≡ pair_at t r c
    pub rows_of : (r : ℕ) → Within n r → RowOf r (listed rows 0 r)

  pub graded_none : (grades : List (Grade C)) (rows : List ℕ) → length rows ≡ 32 → GradedTo 0 grades rows
  graded_none grades rows wide = record { wide = wide; graded = λ r w. absurd (omega (arith, w)); rows_of = λ r w. absurd (omega (arith, w)) }

  -- one row more: ys are the grades of event n + 1, and row its open numbers
  pub graded_more : (n : ℕ) (grades : List (Grade C)) (rows : List ℕ) (k m : ℕ) (ys : List (Grade C)) (row : ℕ) → n < s → s ≤ 32 → n * s ≤ length grades → m ≡ s → ys ≡ row_at t (n + 1) m
      → ((c : ℕ) → Within (length ys) c → stands_in row c ≡ is_open (listed ys Closed c)) → row < 2 ^ length ys
      → GradedTo n grades rows → GradedTo (n + 1) (put_mid (n * s) k grades ys) (set rows n row)
  graded_more n grades rows k m ys row h small inside same is bits below to =
      let full : ys ≡ row_at t (n + 1) s = is ∙ ap (row_at t (n + 1)) same in
      let long : length ys ≡ s = ap length full ∙ row_length t (n + 1) s in
      let place : (c : ℕ) → Within s c → listed ys Closed c ≡ pair_at t (n + 1) c = λ c w. (let up : c - 1 + 1 ≡ c = omega (arith, w) in
      ap (λ (l : List (Grade C)). get_or l (c - 1) Closed) full ∙ row_place t (n + 1) s (c - 1) Closed (omega (arith, w)) ∙ ap (pair_at t (n + 1)) up) in
      let wide = to.wide in
      record {
        wide = length-set rows n row ∙ wide;
        graded = within_more (λ r. (c : ℕ) → Within s c → grade_in (put_mid (n * s) k grades ys) s r c ≡ pair_at t r c) n
            (λ r w c v. part_below (n * s) k grades ys inside ((r - 1) * s + (c - 1)) Closed (omega (arith, mul-add-lt (r - 1) s (c - 1) n (omega (arith, w)) (omega (arith, v)))) ∙ to.graded r w c v)
            (λ c v. (let at : n + 1 - 1 ≡ n = omega arith in
            ap (λ (z : ℕ). get_or (put_mid (n * s) k grades ys) (z * s + (c - 1)) Closed) at ∙ part_here (n * s) k grades ys inside (n * s + (c - 1)) (c - 1) Closed (omega arith) (omega (arith, v)) ∙ place c v));
        rows_of = written_more RowOf rows n 0 row (omega arith) to.rows_of ((λ c w. bits c (omega (arith, w)) ∙ ap is_open (place c w)), subst (λ (z : ℕ). row < 2 ^ z) long below);
      }

-- the grades that are read from a sound table have bounded costs
pub graded_bounded : {C : Type 0} (k : Kind C) (t : Table C) (s : ℕ) (grades : List (Grade C)) → Sound k t → s ≡ t.size → ((r c : ℕ) → Within s r → Within s c → grade_in grades s r c ≡ pair_at t r c) → Bounded k (grade_in grades s) s
graded_bounded k t s grades sound e graded r c rw' cw x o =
    sound_bounded k t sound r c (subst (λ (n : ℕ). Within n r) e rw') (subst (λ (n : ℕ). Within n c) e cw) x (sym (graded r c rw' cw) ∙ o)
