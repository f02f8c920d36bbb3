-- A row of grades while a window is walked over, from its last place to its first.
use Rattle.std.proofs.Common.{◌≡◌, ℕ, ◌+◌, ◌-◌, ◌<◌, ◌≤◌, true, false, List, length, get_or, drop, sym, ◌∙◌, ⊎_elim, arith}
use Rattle.std.proofs.lemmas.Bool.{and_from, cases_lt, cond-true}
use Rattle.std.proofs.lemmas.Bool.Decides.{nat_tests}
use Rattle.costs.specs.Kind.{Kind}
use Rattle.tables.specs.Rows.{Started}
use Rattle.tables.specs.Summing.{graded, summing}
use Rattle.tables.specs.Table.{Table, within, pair_at, row_at}
use Rattle.tables.specs.declared.grade.Grade.{Grade}
use Rattle.tables.specs.declared.grade.Grade.TheVariants.{Closed}
use Rattle.tables.specs.Graded.{graded_skip}
use Rattle.tables.proofs.Rows.{row_is, outside_event, outside_number}

-- a pair with both inside 1 to S
pub pair_inside : {C : Type 0} (t : Table C) (r c : ℕ) → within t.size r ≡ true → within t.size c ≡ true → pair_at t r c ≡ t.pairing t.window r c
pair_inside t r c event number = cond-true _ _ _ (and_from _ _ event number)

module _ {C : Type 0} (k : Kind C) (price : ℕ → ℕ → Grade C) (size : ℕ) (ps es : List ℕ) (r n : ℕ) where
  -- a row of n places after the places from j on
  pub record SummedFrom (j : ℕ) (row : List (Grade C)) : Type 0 where
    pub whole : length row ≡ n
    pub inside : (i : ℕ) → i < n → i < size → get_or row i Closed ≡ graded k price (drop j ps) (drop j es) r (i + 1)
    pub beyond : (i : ℕ) → i < n → size ≤ i → get_or row i Closed ≡ Closed

  module _ (few : length es ≤ length ps) (j : ℕ) (some : 0 < j) (to : j ≤ length es) where
    p-in : j - 1 < length ps
    p-in = omega arith

    e-in : j - 1 < length es
    e-in = omega arith

    next : j - 1 + 1 ≡ j
    next = omega arith

    pub walk_skips : (row : List (Grade C)) → (get_or es (j - 1) 0 ≡ r → ⊥) → SummedFrom j row → SummedFrom (j - 1) row
    walk_skips row other s = record {
      whole = s.whole;
      inside = λ i h l. s.inside i h l ∙ sym (graded_skip k price r (i + 1) ps es (j - 1) j next p-in e-in other);
      beyond = s.beyond;
    }

  pub walk_ends : within size r ≡ true → (row : List (Grade C)) → SummedFrom 0 row → row ≡ row_at (summing k price size ps es) r n
  walk_ends event row s =
      let t = summing k price size ps es in
      row_is t r n n row (omega arith) (record {
        whole = s.whole;
        front = λ i h. ⊎_elim
            (λ l. s.inside i h l ∙ sym (pair_inside t r (i + 1) event (let to : i + 1 ≤ size = omega arith in grind (arith, nat_tests))))
            (λ l. s.beyond i h l ∙ sym (outside_number t r (i + 1) (omega arith)))
            (cases_lt i size);
      })

-- the row of an event outside 1 to S
pub row_closed : {C : Type 0} (k : Kind C) (t : Table C) (r n : ℕ) (row : List (Grade C)) → within t.size r ≡ false → Started k 0 n row → row ≡ row_at t r n
row_closed k t r n row out o =
    row_is t r n n row (omega arith) (record {
      whole = o.whole;
      front = λ j h. o.beyond j h (omega arith) ∙ sym (outside_event t r (j + 1) out);
    })

-- one pair, place by place
module _ {C : Type 0} (k : Kind C) (price : ℕ → ℕ → Grade C) (ps es : List ℕ) (r c : ℕ) (few : length es ≤ length ps) (j : ℕ) (some : 0 < j) (to : j ≤ length es) where
  pub pair_skips : (sum : Grade C) → (get_or es (j - 1) 0 ≡ r → ⊥) → sum ≡ graded k price (drop j ps) (drop j es) r c → sum ≡ graded k price (drop (j - 1) ps) (drop (j - 1) es) r c
  pair_skips sum other inv = inv ∙ sym (graded_skip k price r c ps es (j - 1) j (omega arith) (omega arith) (omega arith) other)
