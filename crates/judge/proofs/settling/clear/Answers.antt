use Rattle.std.proofs.Common.{◌≡◌, ℕ, suc, ◌-◌, zero, List, [], ◌∷◌, ◌++◌, get_or, drop, refl, ◌∙◌, arith, rules}
use Rattle.std.proofs.lemmas.List.{get_or_append_left, length-take-le}
use Rattle.std.proofs.lemmas.Fn.{chained_keeps}
use Rattle.judge.proofs.settling.clear.Goals as goal

-- one more of the same at the end of a list of one value
push_same : {X : Type 0} (xs : List X) (z x : X) → x ≡ z → ((d : ℕ) → get_or xs d z ≡ z) → (d : ℕ) → get_or (xs ++ (x ∷ [])) d z ≡ z
push_same [] z x e f zero = e
push_same [] z x e f (suc d) = refl
push_same (y ∷ ys) z x e f zero = f 0
push_same (y ∷ ys) z x e f (suc d) = push_same ys z x e (λ i. f (suc i)) d

pub returns-clause-zero : goal.returns-clause-zero
returns-clause-zero g c =
    let k = g.C.Cost.kind in
    let all : (d : ℕ) → get_or c.fill_with.new.self d k.zero ≡ k.zero = chained_keeps _ (λ xs q. (d : ℕ) → get_or xs d k.zero ≡ k.zero) (λ xs q x v f r. push_same xs k.zero x (search rules) f) _ _ _ (λ d. refl) c.fill_with.ensures.ran.1 in
    let long = length-take-le c.args.size c.args.prices.now c.requires in
    λ d w. get_or_append_left c.fill_with.new.self (drop c.args.size c.args.prices.now) k.zero (d - 1) (omega (arith, c.fill_with.ensures.len, w)) ∙ all (d - 1)
