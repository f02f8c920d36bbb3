-- The least cost over all renumberings.
use Rattle.std.proofs.Common.{◌≡◌, ℕ, Bool, true, false, cond, ◌⊎◌, List, [], ◌∷◌, Some, None, sym, refl, ap, ◌∙◌, subst, inl, inr, ⊎_elim}
use Rattle.std.proofs.lemmas.Bool.{both_ways}
use Rattle.costs.specs.Kind.{Kind, Laws, AtMost}
use Rattle.costs.specs.Lists.{In}
use Rattle.tables.specs.declared.grade.Grade.{Grade}
use Rattle.judge.specs.Allowed.{allowed, cost}
use Rattle.judge.specs.Enumeration.{renumberings}
use Rattle.judge.specs.Least.{offer, least_of}
use Rattle.judge.specs.Theorems.{CheapestIsLeast, ViolatorLeavesNone}
use Rattle.costs.proofs.Sums.{at_most_itself}
use Rattle.judge.proofs.Violators.{violators}
use Rattle.judge.proofs.Listing.{enumerated}

module _ {C : Type 0} (k : Kind C) (laws : Laws k) (g : ℕ → ℕ → Grade C) where
  -- what least-of answers of a list
  abbrev pub NoneOf : List (List ℕ) → Type 0
  NoneOf ls = (least_of k g ls ≡ None) × ((ms : List ℕ) → In ms ls → allowed g ms ≡ false)

  abbrev pub OneOf : List (List ℕ) → Type 0
  OneOf ls = (ns : List ℕ) × (least_of k g ls ≡ Some (cost k g ns)) × In ns ls × (allowed g ns ≡ true) × ((ms : List ℕ) → In ms ls → allowed g ms ≡ true → AtMost k (cost k g ns) (cost k g ms))

  one_more : (l : List ℕ) (ls : List (List ℕ)) (b : Bool) → allowed g l ≡ b → NoneOf ls ⊎ OneOf ls → NoneOf (l ∷ ls) ⊎ OneOf (l ∷ ls)
  one_more l ls false e (inl n) =
      inl (
        ap (λ b. offer k b (cost k g l) (least_of k g ls)) e ∙ n.0,
        λ ms h. ⊎_elim (λ (m : ms ≡ l). ap (allowed g) m ∙ e) (λ (m : In ms ls). n.1 ms m) h,
      )
  one_more l ls false e (inr o) =
      inr (
        o.0,
        ap (λ b. offer k b (cost k g l) (least_of k g ls)) e ∙ o.1,
        inr o.2,
        o.3,
        λ ms h ok. ⊎_elim (λ (m : ms ≡ l). absurd (both_ways (allowed g ms) (ap (allowed g) m ∙ e) ok)) (λ (m : In ms ls). o.4 ms m ok) h,
      )
  one_more l ls true e (inl n) =
      inr (
        l,
        ap (λ b. offer k b (cost k g l) (least_of k g ls)) e ∙ ap (offer k true (cost k g l)) n.0,
        inl refl,
        e,
        λ ms h ok. ⊎_elim (λ (m : ms ≡ l). subst (λ q. AtMost k (cost k g l) (cost k g q)) (sym m) (at_most_itself k laws (cost k g l))) (λ (m : In ms ls). absurd (both_ways (allowed g ms) (n.1 ms m) ok)) h,
      )
  one_more l ls true e (inr o) = better (k.at_most (cost k g l) (cost k g o.0)) refl
    where
      told : least_of k g (l ∷ ls) ≡ Some (cond (k.at_most (cost k g l) (cost k g o.0)) (cost k g l) (cost k g o.0))
      told = ap (λ b. offer k b (cost k g l) (least_of k g ls)) e ∙ ap (offer k true (cost k g l)) o.1

      better : (b : Bool) → k.at_most (cost k g l) (cost k g o.0) ≡ b → NoneOf (l ∷ ls) ⊎ OneOf (l ∷ ls)
      better true t =
          inr (
            l,
            told ∙ ap (λ q. Some (cond q (cost k g l) (cost k g o.0))) t,
            inl refl,
            e,
            λ ms h ok. ⊎_elim (λ (m : ms ≡ l). subst (λ q. AtMost k (cost k g l) (cost k g q)) (sym m) (at_most_itself k laws (cost k g l)))
                (λ (m : In ms ls). laws.order_trans (cost k g l) (cost k g o.0) (cost k g ms) t (o.4 ms m ok)) h,
          )
      better false t =
          inr (
            o.0,
            told ∙ ap (λ q. Some (cond q (cost k g l) (cost k g o.0))) t,
            inr o.2,
            o.3,
            λ ms h ok. ⊎_elim (λ (m : ms ≡ l). subst (λ q. AtMost k (cost k g o.0) (cost k g q)) (sym m) (other (laws.order_total (cost k g l) (cost k g o.0))))
                (λ (m : In ms ls). o.4 ms m ok) h,
          )
        where
          other : (AtMost k (cost k g l) (cost k g o.0)) ⊎ (AtMost k (cost k g o.0) (cost k g l)) → AtMost k (cost k g o.0) (cost k g l)
          other (inl y) = absurd (both_ways (k.at_most (cost k g l) (cost k g o.0)) t y)
          other (inr y) = y

  pub answers : (ls : List (List ℕ)) → NoneOf ls ⊎ OneOf ls
  answers [] = inl (refl, λ ms h. absurd h)
  answers (l ∷ ls) = one_more l ls (allowed g l) refl (answers ls)

pub cheapest_is_least : (C : Type 0) → CheapestIsLeast C
cheapest_is_least C k laws g s ns ch =
    ⊎_elim
    (λ (n : NoneOf k laws g (renumberings s)). absurd (both_ways (allowed g ns) (n.1 ns ((enumerated s ns).0 ch.0)) ch.1))
    (λ (o : OneOf k laws g (renumberings s)).
    o.1 ∙ ap Some (laws.order_antisym (cost k g o.0) (cost k g ns) (o.4 ns ((enumerated s ns).0 ch.0) ch.1) (ch.2 o.0 ((enumerated s o.0).1 o.2) o.3)))
    (answers k laws g (renumberings s))

pub violator_leaves_none : (C : Type 0) → ViolatorLeavesNone C
violator_leaves_none C k laws g s marks few =
    ⊎_elim (λ (n : NoneOf k laws g (renumberings s)). n.0)
    (λ (o : OneOf k laws g (renumberings s)). absurd (both_ways (allowed g o.0) (violators C g s marks few o.0 ((enumerated s o.0).1 o.2)) o.3))
    (answers k laws g (renumberings s))
