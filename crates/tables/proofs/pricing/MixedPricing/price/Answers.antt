use Rattle.std.proofs.Common.{◌≡◌, ℕ, Bool, true, false, cond, eqb, eqb-true, nat_lt, refl, ap, ◌∙◌, arith}
use Rattle.costs.specs.Pair.{both}
use Rattle.costs.specs.PairLaws.{pair_same}
use Rattle.costs.specs.Plain.{plain_of}
use Rattle.tables.specs.Pricing.{gap}
use Rattle.tables.specs.declared.grade.Grade.{Grade}
use Rattle.tables.specs.declared.grade.Grade.TheVariants.{Closed, Open}
use Rattle.tables.proofs.pricing.MixedPricing.price.Goals as goal

abbrev cost_or : {C : Type 0} → C → Grade C → C
cost_or d Closed = d
cost_or d (Open x) = x

opened : {C : Type 0} (x y : C) → Open x ≡ Open y → x ≡ y
opened x y e = ap (cost_or x) e

abbrev shut : {C : Type 0} → Grade C → ℕ
shut Closed = 1
shut (Open x) = 0

-- the pair of two grades: x is z or o, and y is w unless it is closed
together : {C : Type 0} (far same : Bool) (x y z o w : C) → (same ≡ true → w ≡ z) → Open x ≡ cond same (Open z) (Open o) → Open y ≡ cond far Closed (Open w) → Open (both x y) ≡ cond far Closed (cond same (Open (both z z)) (Open (both o w)))
together true same x y z o w h e f = let n : ◌≡◌ {A = ℕ} 0 1 = ap shut f in absurd (omega arith)
together false true x y z o w h e f = ap Open (pair_same _ _ (opened x z e) (opened y w f ∙ h refl))
together false false x y z o w h e f = ap Open (pair_same _ _ (opened x o e) (opened y w f))

pub returns : goal.returns
returns c =
    let p = c.args.trace in
    let n = c.args.number in
    together (nat_lt c.args.self.now.delta (gap p n)) (eqb p n) c.in-Open-price.first c.in-Open.second (plain_of 0) (plain_of 1) (plain_of (gap p n))
    (λ e. let same : p ≡ n = eqb-true p n e in let none : gap p n ≡ 0 = omega arith in ap plain_of none) c.in-Open-price.ensures (rw c.apart.ensures at c.in-Open.ensures)
