-- The verdict by trying is 'within' exactly where some allowed renumbering costs at most the bound.
use Rattle.std.proofs.Common.{◌≡◌, ℕ, Bool, true, false, cond, List, sym, refl, ap, ◌∙◌, ⊎_elim}
use Rattle.std.proofs.lemmas.Bool.{both_ways, cond-true}
use Rattle.costs.specs.Kind.{Kind, Laws, AtMost}
use Rattle.tables.specs.Table.{Table, pair_at}
use Rattle.judge.specs.Allowed.{allowed, cost}
use Rattle.judge.specs.Enumeration.{renumberings}
use Rattle.judge.specs.Judging.{Affordable}
use Rattle.judge.specs.Least.{by_bound, judged}
use Rattle.judge.specs.declared.verdict.Verdict.{Verdict}
use Rattle.judge.specs.declared.verdict.Verdict.TheVariants.{Within as Inside, Over, None as Never}
use Rattle.judge.proofs.Least.{NoneOf, OneOf, answers}
use Rattle.judge.proofs.Listing.{enumerated}
use Rattle.watch.proofs.Outcomes.{never}

not_inside : {C : Type 0} (c : C) → ◌≡◌ {A = Verdict C} Never (Inside c) → ⊥
not_inside c e = never cc

not_over : {C : Type 0} (c d : C) → ◌≡◌ {A = Verdict C} (Over d) (Inside c) → ⊥
not_over c d e = never cc

module _ {C : Type 0} (k : Kind C) (laws : Laws k) (t : Table C) (bound : C) where
  abbrev tried : List (List ℕ)
  tried = renumberings t.size

  pub inside_affordable : (c : C) → judged k (pair_at t) t.size bound ≡ Inside c → Affordable k t bound
  inside_affordable c e =
      ⊎_elim
      (λ (n : NoneOf k laws (pair_at t) tried). absurd (not_inside c (sym (ap (by_bound k bound) n.0) ∙ e)))
      (λ (o : OneOf k laws (pair_at t) tried). go o (k.at_most (cost k (pair_at t) o.0) bound) refl (sym (ap (by_bound k bound) o.1) ∙ e))
      (answers k laws (pair_at t) tried)
    where
      go : (o : OneOf k laws (pair_at t) tried) (b : Bool) → k.at_most (cost k (pair_at t) o.0) bound ≡ b → cond b (Inside (cost k (pair_at t) o.0)) (Over (cost k (pair_at t) o.0)) ≡ Inside c → Affordable k t bound
      go o true le h = (o.0, (enumerated t.size o.0).1 o.2, o.3, le)
      go o false gt h = absurd (not_over c (cost k (pair_at t) o.0) h)

  pub affordable_inside : Affordable k t bound → (c : C) × (judged k (pair_at t) t.size bound ≡ Inside c)
  affordable_inside a =
      let own = (enumerated t.size a.0).0 a.1 in
      ⊎_elim
      (λ (n : NoneOf k laws (pair_at t) tried). absurd (both_ways (allowed (pair_at t) a.0) (n.1 a.0 own) a.2))
      (λ (o : OneOf k laws (pair_at t) tried).
      let least = o.4 a.0 own a.2 in
      let le : AtMost k (cost k (pair_at t) o.0) bound = laws.order_trans (cost k (pair_at t) o.0) (cost k (pair_at t) a.0) bound least a.3 in
      (cost k (pair_at t) o.0, ap (by_bound k bound) o.1 ∙ cond-true _ _ _ le))
      (answers k laws (pair_at t) tried)
