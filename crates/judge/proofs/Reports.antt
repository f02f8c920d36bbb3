-- What is told of a renumbering: its cost, added up from its last event to its first, and the prices of its events.
use Rattle.std.proofs.Common.{◌≡◌, ℕ, suc, ◌+◌, ◌-◌, ◌<◌, ◌≤◌, true, List, [], ◌∷◌, length, get_or, take, drop, sym, ap, ◌∙◌, subst, inl, inr, arith}
use Rattle.std.proofs.lemmas.List.{drop_more, drop_all, get_or-take}
use Rattle.std.proofs.lemmas.Bool.{and_from, cases_Bool, cond-true, cond-false, false≢true}
use Rattle.costs.specs.Kind.{Kind}
use Rattle.costs.specs.Sums.{sum_of}
use Rattle.tables.specs.Table.{Within}
use Rattle.tables.specs.declared.grade.Grade.{Grade}
use Rattle.tables.specs.declared.grade.Grade.TheVariants.{Closed, Open}
use Rattle.judge.specs.Renumbering.{pairs_from}
use Rattle.judge.specs.Allowed.{is_open, cost_of, all_open, allowed, pair_cost, cost}
use Rattle.judge.specs.Grades.{renumbering_grade, event_price}
use Rattle.judge.specs.Rows.{listed}
use Rattle.judge.proofs.Pairs.{open_places}
use Rattle.judge.proofs.Written.{listed_next}

module _ {C : Type 0} (k : Kind C) (g : ℕ → ℕ → Grade C) (ns : List ℕ) where
  -- the pairs from place j on are open, and come to the sum
  pub record SummedFrom (j : ℕ) (sum : C) : Type 0 where
    pub all : all_open g (pairs_from (j + 1) (drop j ns)) ≡ true
    pub is : sum ≡ sum_of k (pair_cost k g) (pairs_from (j + 1) (drop j ns))

  pub summed_none : (j : ℕ) (sum : C) → length ns ≤ j → sum ≡ k.zero → SummedFrom j sum
  summed_none j sum h e =
      let none : drop j ns ≡ [] = drop_all j ns h in
      record {
        all = ap (λ (l : List ℕ). all_open g (pairs_from (j + 1) l)) none;
        is = e ∙ sym (ap (λ (l : List ℕ). sum_of k (pair_cost k g) (pairs_from (j + 1) l)) none);
      }

  pub summed_more : (i j : ℕ) (x sum y : C) → i ≡ j + 1 → j < length ns → Open x ≡ g (j + 1) (get_or ns j 0) → y ≡ k.plus x sum → SummedFrom i sum → SummedFrom j y
  summed_more i j x sum y up h e f from =
      let more : drop j ns ≡ get_or ns j 0 ∷ drop (j + 1) ns = drop_more ns j 0 h in
      let rest : SummedFrom (j + 1) sum = subst (λ (z : ℕ). SummedFrom z sum) up from in
      record {
        all = ap (λ (l : List ℕ). all_open g (pairs_from (j + 1) l)) more ∙ and_from _ _ (ap is_open (sym e)) rest.all;
        is = f ∙ ap (k.plus x) rest.is ∙ ap (λ z. k.plus (cost_of k z) (sum_of k (pair_cost k g) (pairs_from (j + 1 + 1) (drop (j + 1) ns)))) e
            ∙ sym (ap (λ (l : List ℕ). sum_of k (pair_cost k g) (pairs_from (j + 1) l)) more);
      }

  pub summed_all : (j : ℕ) (sum : C) → j ≡ 0 → SummedFrom j sum → Open sum ≡ renumbering_grade k g ns
  summed_all j sum done from' =
      let from : SummedFrom 0 sum = subst (λ (z : ℕ). SummedFrom z sum) done from' in
      ap Open from.is ∙ sym (cond-true (allowed g ns) (Open (cost k g ns)) Closed from.all)

  -- one closed pair closes the renumbering
  pub closed_at : (j : ℕ) → j < length ns → Closed ≡ g (j + 1) (get_or ns j 0) → Closed ≡ renumbering_grade k g ns
  closed_at j h e = elim (cases_Bool (allowed g ns)) [
    | inl all ↦ absurd (false≢true (ap is_open e ∙ (let up : j + 1 ≡ 1 + j = omega arith in ap (λ (r : ℕ). is_open (g r (get_or ns j 0))) up) ∙ open_places g ns 1 all j h))
    | inr none ↦ sym (cond-false (allowed g ns) (Open (cost k g ns)) Closed none)
  ]

-- the number of the event at place i
module _ (s : ℕ) (ns : List ℕ) (within : (r : ℕ) → Within s r → Within s (listed ns 0 r)) (i : ℕ) (h : i < s) where
  pub number_within : Within s (get_or ns i 0)
  number_within = subst (Within s) (listed_next ns 0 i) (within (i + 1) (omega arith))

  pub number_up : suc (get_or ns i 0 - 1) ≡ get_or ns i 0
  number_up = omega (arith, number_within)

  -- a grade that was read by the place of the number
  pub grade_taken : {C : Type 0} (g : ℕ → ℕ → Grade C) (r : ℕ) (x : Grade C) → x ≡ g r (suc (get_or ns i 0 - 1)) → x ≡ g r (get_or (take s ns) i 0)
  grade_taken g r x e = e ∙ ap (g r) (number_up ∙ sym (get_or-take s ns i 0 h))

-- the price of the event at place i, from what its pair costs and the price p of its number
pub price_at : {C : Type 0} (k : Kind C) (g : ℕ → ℕ → Grade C) (ns : List ℕ) (prices : List C) (i : ℕ) (x p y : C) → suc (get_or ns i 0 - 1) ≡ get_or ns i 0 → Open x ≡ g (i + 1) (suc (get_or ns i 0 - 1)) → p ≡ get_or prices (get_or ns i 0 - 1) k.zero → y ≡ k.minus x p → y ≡ event_price k g ns (listed prices k.zero) (i + 1)
price_at k g ns prices i x p y up o is e =
    subst (λ (n : ℕ). y ≡ k.minus (cost_of k (g (i + 1) n)) (listed prices k.zero n)) (sym (listed_next ns 0 i))
    (e ∙ ap (λ z. k.minus (cost_of k z) p) (o ∙ ap (g (i + 1)) up) ∙ ap (k.minus (cost_of k (g (i + 1) (get_or ns i 0)))) is)
