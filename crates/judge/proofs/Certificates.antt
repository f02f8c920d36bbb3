-- From seats to the lists that are handed out: the renumbering, its prices, and what stays beyond the size.
use Rattle.std.proofs.Common.{◌≡◌, ℕ, ◌+◌, ◌-◌, ◌≤◌, true, List, length, get_or, take, drop, Some, None, sym, refl, ap, ◌∙◌, arith, length-drop}
use Rattle.std.proofs.lemmas.List.{ext_get_or, get_or-drop, get_or-take, length-take-le}
use Rattle.std.proofs.lemmas.Bool.{cond-true}
use Rattle.costs.specs.Kind.{Kind, Laws}
use Rattle.tables.specs.Table.{Within}
use Rattle.tables.specs.declared.grade.Grade.{Grade}
use Rattle.tables.specs.declared.grade.Grade.TheVariants.{Closed, Open}
use Rattle.judge.specs.Allowed.{is_open, cost_of, allowed, cost}
use Rattle.judge.specs.Grades.{event_price, renumbering_grade}
use Rattle.judge.specs.Prices.{Bounded, Certified}
use Rattle.judge.specs.Rows.{AgreePast, listed, listed_cost, or_none}
use Rattle.judge.specs.Seating.{Seating}
use Rattle.judge.specs.Settling.{Seated, seat_in, holder_in}
use Rattle.judge.specs.declared.settling.Seats.{Seats}
use Rattle.judge.proofs.Same.{seating_same}
use Rattle.judge.proofs.Seats.{event_prices}
use Rattle.judge.proofs.Settled.{certified}

-- lists of one length that agree past s
pub same_beyond : {C : Type 0} (k : Kind C) (s : ℕ) (before after : List C) → length after ≡ length before → AgreePast s (listed_cost k after) (listed_cost k before) → drop s after ≡ drop s before
same_beyond k s before after len past =
    ext_get_or k.zero (drop s after) (drop s before) (length-drop s after ∙ ap (λ n. n - s) len ∙ sym (length-drop s before))
    (λ i h.
    let at : s + i + 1 - 1 ≡ s + i = omega arith in
    get_or-drop s after i k.zero ∙ ap (λ n. get_or after n k.zero) (sym at) ∙ past (s + i + 1) (omega arith) ∙ ap (λ n. get_or before n k.zero) at ∙ sym (get_or-drop s before i k.zero))

open_some : {C : Type 0} (x : Grade C) (y : C) → x ≡ Open y → is_open x ≡ true
open_some x y e = ap is_open e

module _ {C : Type 0} (k : Kind C) (g : ℕ → ℕ → Grade C) (s : ℕ) (seats : Seats) (v : ℕ → C) (seated : Seated k g s seats v) (all : (i : ℕ) → Within s i → 1 ≤ seat_in seats i) where
  module _ (numbers : List ℕ) (written : (r : ℕ) → Within s r → Some (listed numbers 0 r) ≡ listed seats.numbers None r) where
    number_is : (r : ℕ) → Within s r → listed numbers 0 r ≡ seat_in seats r
    number_is r w = ap or_none (written r w)

    pub numbers_within : (r : ℕ) → Within s r → Within s (listed numbers 0 r)
    numbers_within r w = let e = number_is r w in let low = all r w in let high = seated.seating.seat_within r w in (omega arith, omega arith)

    pair-open : (r : ℕ) → Within s r → (x : C) × (g r (seat_in seats r) ≡ Open x)
    pair-open r w =
        let cw : Within s (seat_in seats r) = (all r w, seated.seating.seat_within r w) in
        let back = seated.seating.seat_holder r w (all r w) in
        let t = seated.seating.tight (seat_in seats r) cw (let o = w.0 in omega arith) in
        (t.0, ap (λ (z : ℕ). g z (seat_in seats r)) (sym back) ∙ t.1)

    pub numbers_open : (r : ℕ) → Within s r → is_open (g r (listed numbers 0 r)) ≡ true
    numbers_open r w = let p = pair-open r w in open_some _ p.0 (ap (g r) (number_is r w) ∙ p.1)

    module _ (laws : Laws k) (bounded : Bounded k g s) (long : s ≤ length numbers) (prices : List C) (priced : (r : ℕ) → Within s r → listed_cost k prices r ≡ event_price k g numbers v r) where
      told : (i : ℕ) → Within s i → (x : C) → g i (seat_in seats i) ≡ Open x → listed_cost k prices i ≡ k.minus x (v (seat_in seats i))
      told i w x e =
          priced i w
          ∙ ap (λ n. k.minus (cost_of k (g i n)) (v n)) (number_is i w)
          ∙ ap (λ y. k.minus (cost_of k y) (v (seat_in seats i))) e

      own : Seating k g s (seat_in seats) (holder_in seats) (listed_cost k prices) v
      own = seating_same k g s (seat_in seats) (seat_in seats) (holder_in seats) (holder_in seats) seated.u (listed_cost k prices) v v (λ c w. refl) (λ c w. refl) (event_prices k g s (seat_in seats) (holder_in seats) seated.u v seated.seating laws bounded all (listed_cost k prices) told) (λ c w. refl) seated.seating

      -- the numbers and the prices certify each other
      pub certificate : Certified k g s (take s numbers) (listed_cost k prices) v
      certificate = certified k g s (seat_in seats) (holder_in seats) (listed_cost k prices) v own all (take s numbers) (length-take-le s numbers long)
          (λ r w. get_or-take s numbers (r - 1) 0 (let a = w.0 in let b = w.1 in omega arith) ∙ number_is r w)

-- an allowed renumbering is open at its cost
pub renumbering_open : {C : Type 0} (k : Kind C) (g : ℕ → ℕ → Grade C) (ns : List ℕ) → allowed g ns ≡ true → renumbering_grade k g ns ≡ Open (cost k g ns)
renumbering_open k g ns e = cond-true _ _ _ e

pub open_same : {C : Type 0} (x y : C) → Open x ≡ Open y → x ≡ y
open_same x y e = cc

pub never_closed : {C : Type 0} (x : C) → Closed ≡ Open x → ⊥
never_closed x e = let z : ◌≡◌ {A = ℕ} 0 1 = cc in omega arith
