-- Rows that are filled place by place.
use Rattle.std.proofs.Common.{◌≡◌, ℕ, ◌+◌, ◌<◌, ◌≤◌, Bool, true, false, cond, ◌&&◌, leb, List, map, length, get_or, set, min, sym, refl, ap, ◌∙◌, ⊎_elim, arith, length-set, get_or-set_other, get_or-set_same, below_more}
use Rattle.std.specs.List.{range_with_len}
use Rattle.std.proofs.lemmas.List.FromFn.{length-map-range_with_len, get_or-map-range_with_len}
use Rattle.std.proofs.lemmas.List.{ext_get_or, get_or_default}
use Rattle.std.proofs.lemmas.Bool.{cases_lt, cond-true, cond-false, le-leb, lt-leb}
use Rattle.std.proofs.lemmas.Bool.Decides.{nat_tests}
use Rattle.costs.specs.Kind.{Kind}
use Rattle.tables.specs.Rows.{Started, Placed}
use Rattle.tables.specs.Summing.{add_grade}
use Rattle.tables.specs.Table.{Table, within, pair_at, row_at}
use Rattle.tables.specs.declared.grade.Grade.{Grade}
use Rattle.tables.specs.declared.grade.Grade.TheVariants.{Closed, Open}

-- a list of n places whose first i places hold f of 1, 2, and so on
pub record Filled {X : Type 0} (f : ℕ → X) (d : X) (n i : ℕ) (xs : List X) : Type 0 where
  pub whole : length xs ≡ n
  pub front : (j : ℕ) → j < i → get_or xs j d ≡ f (j + 1)

module _ {X : Type 0} (f : ℕ → X) (d : X) (n : ℕ) where
  pub filled_none : (xs : List X) → length xs ≡ n → Filled f d n 0 xs
  filled_none xs len = record { whole = len; front = λ j h. absurd (omega arith) }

  pub filled_more : (i : ℕ) (xs : List X) (x : X) → i < n → x ≡ f (i + 1) → Filled f d n i xs → Filled f d n (i + 1) (set xs i x)
  filled_more i xs x h e filled =
      let inside : i < length xs = let w = filled.whole in omega arith in
      record {
        whole = length-set xs i x ∙ filled.whole;
        front = below_more (λ j. get_or (set xs i x) j d ≡ f (j + 1)) i
            (λ j l. get_or-set_other xs i j x d (λ (q : j ≡ i). omega arith) ∙ filled.front j l)
            (get_or-set_same xs i x d inside ∙ e);
      }

  pub filled_all : (i : ℕ) (xs : List X) → n ≤ i → Filled f d n i xs → xs ≡ map f (range_with_len 1 n)
  filled_all i xs top filled =
      let len = filled.whole in
      ext_get_or d xs (map f (range_with_len 1 n)) (len ∙ sym (length-map-range_with_len f 1 n))
      (λ j h. let l : j < n = omega arith in filled.front j (omega arith) ∙ sym (get_or-map-range_with_len f 1 n j (j + 1) d l (omega arith)))

-- what row writes
module _ {C : Type 0} (t : Table C) (r n : ℕ) where
  pub row_is : (i : ℕ) (xs : List (Grade C)) → n ≤ i → Filled (pair_at t r) Closed n i xs → xs ≡ row_at t r n
  unfolding row_at
  row_is i xs top filled = filled_all (pair_at t r) Closed n i xs top filled

  pub row_length : length (row_at t r n) ≡ n
  unfolding row_at
  row_length = length-map-range_with_len (pair_at t r) 1 n

  pub row_place : (j : ℕ) (d : Grade C) → j < n → get_or (row_at t r n) j d ≡ pair_at t r (j + 1)
  unfolding row_at
  row_place j d h = get_or-map-range_with_len (pair_at t r) 1 n j (j + 1) d h (omega arith)

-- a pair that is closed since its event, or its number, is outside 1 to S
pub outside_event : {C : Type 0} (t : Table C) (r c : ℕ) → within t.size r ≡ false → pair_at t r c ≡ Closed
outside_event t r c out = cond-false _ _ _ (ap (λ b. b && within t.size c) out)

pub outside_number : {C : Type 0} (t : Table C) (r c : ℕ) → t.size < c → pair_at t r c ≡ Closed
outside_number t r c out =
    let no_number : within t.size c ≡ false = grind (arith, nat_tests) in
    cond-false _ _ _ (and-false (within t.size r) no_number)
  where
    and-false : (b : Bool) → within t.size c ≡ false → (b && within t.size c) ≡ false
    and-false true e = e
    and-false false e = refl

-- a row that is opened number by number
module _ {C : Type 0} (k : Kind C) (s n : ℕ) where
  -- what a row starts from at number c
  pub start_at : ℕ → Grade C
  start_at c = cond (leb c s) (Open k.zero) Closed

  start_inside : (j : ℕ) → j < s → start_at (j + 1) ≡ Open k.zero
  unfolding start_at
  start_inside j h = cond-true (leb (j + 1) s) (Open k.zero) Closed (le-leb (j + 1) s (omega arith))

  start_beyond : (j : ℕ) → s ≤ j → start_at (j + 1) ≡ Closed
  unfolding start_at
  start_beyond j h = cond-false (leb (j + 1) s) (Open k.zero) Closed (lt-leb (j + 1) s (omega arith))

  pub started : (i : ℕ) (row : List (Grade C)) → n ≤ i → Filled start_at Closed n i row → Started k s n row
  started i row top filled = record {
    whole = filled.whole;
    inside = λ j h l. filled.front j (omega arith) ∙ start_inside j l;
    beyond = λ j h l. filled.front j (omega arith) ∙ start_beyond j l;
  }

  pub start_open : (j : ℕ) (x : C) → x ≡ k.zero → j < s → Open x ≡ start_at (j + 1)
  start_open j x e h = ap Open e ∙ sym (start_inside j h)

  pub start_closed : (j : ℕ) → s ≤ j → Closed ≡ start_at (j + 1)
  start_closed j h = sym (start_beyond j h)

-- a price that is added number by number
module _ {C : Type 0} (k : Kind C) (price : ℕ → Grade C) where
  pub placed_none : (n : ℕ) (row : List (Grade C)) → n ≡ 0 → Placed k price n row row
  placed_none n row e = record { whole = refl; inside = λ j h l. absurd (omega arith); beyond = λ j h. refl }

  -- the grade at the place is replaced by its sum with the price
  pub placed_more : (n : ℕ) (before row : List (Grade C)) (d x : Grade C) → n < length row → x ≡ add_grade k (price (n + 1)) (get_or row n d) → Placed k price n before row → Placed k price (n + 1) before (set row n x)
  placed_more n before row d x h e p = record {
    whole = length-set row n x ∙ p.whole;
    inside = λ j l m. ⊎_elim
        (λ below. get_or-set_other row n j x Closed (λ (q : j ≡ n). omega arith) ∙ p.inside j l below)
        (λ above. let here : j ≡ n = omega arith in rw here (get_or-set_same row n x Closed h ∙ e ∙ ap (add_grade k (price (n + 1))) (get_or_default row n d Closed h ∙ p.beyond n (omega arith))))
        (cases_lt j n);
    beyond = λ j l. get_or-set_other row n j x Closed (λ (q : j ≡ n). omega arith) ∙ p.beyond j (omega arith);
  }

  -- past the end of the row there is nothing to add
  pub placed_past : (n size : ℕ) (before row : List (Grade C)) → min size (length before) ≤ n → n ≤ size → Placed k price n before row → Placed k price size before row
  placed_past n size before row past small p = record {
    whole = p.whole;
    inside = λ j l m. p.inside j l (omega arith);
    beyond = λ j l. p.beyond j (omega arith);
  }
