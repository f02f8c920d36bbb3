-- Grades that are the same for events and numbers 1 to s make the same renumberings allowed, at the same costs.
use Rattle.std.proofs.Common.{◌≡◌, ℕ, ◌+◌, ◌-◌, ◌≤◌, ◌&&◌, List, [], ◌∷◌, length, get_or, sym, refl, ap, ◌∙◌, arith}
use Rattle.std.specs.List.{AllByRecursion}
use Rattle.std.proofs.ByRecursion.{All-get_or}
use Rattle.costs.specs.Kind.{Kind}
use Rattle.costs.specs.Sums.{sum_of}
use Rattle.tables.specs.Table.{Within}
use Rattle.tables.specs.declared.grade.Grade.{Grade}
use Rattle.judge.specs.Renumbering.{Renumbering, pairs_from}
use Rattle.judge.specs.Allowed.{is_open, cost_of, all_open, allowed, pair_cost, cost}
use Rattle.judge.specs.Prices.{Bounded, Certified}

-- an entry of a renumbering
pub number_within : (s : ℕ) (ns : List ℕ) → Renumbering s ns → (r : ℕ) → Within s r → Within s (get_or ns (r - 1) 0)
number_within s ns renumbers r w = All-get_or (Within s) ns (r - 1) 0 (let len = renumbers.0 in omega arith) renumbers.1

module _ {C : Type 0} (g g' : ℕ → ℕ → Grade C) (s : ℕ) (same : (r c : ℕ) → Within s r → Within s c → g r c ≡ g' r c) where
  all_open_same : (r : ℕ) (ns : List ℕ) → 1 ≤ r → r + length ns ≤ s + 1 → AllByRecursion (Within s) ns → all_open g (pairs_from r ns) ≡ all_open g' (pairs_from r ns)
  all_open_same r [] from to w = refl
  all_open_same r (c ∷ cs) from to w =
      ap (λ x. is_open x && all_open g (pairs_from (r + 1) cs)) (same r c (from, omega arith) w.0)
      ∙ ap (λ b. is_open (g' r c) && b) (all_open_same (r + 1) cs (omega arith) (omega arith) w.1)

  pub allowed_same : (ns : List ℕ) → Renumbering s ns → allowed g ns ≡ allowed g' ns
  allowed_same ns renumbers = all_open_same 1 ns (omega arith) (let len = renumbers.0 in omega arith) renumbers.1

  module _ (k : Kind C) where
    sum_same : (r : ℕ) (ns : List ℕ) → 1 ≤ r → r + length ns ≤ s + 1 → AllByRecursion (Within s) ns → sum_of k (pair_cost k g) (pairs_from r ns) ≡ sum_of k (pair_cost k g') (pairs_from r ns)
    sum_same r [] from to w = refl
    sum_same r (c ∷ cs) from to w =
        ap (λ x. k.plus (cost_of k x) (sum_of k (pair_cost k g) (pairs_from (r + 1) cs))) (same r c (from, omega arith) w.0)
        ∙ ap (k.plus (cost_of k (g' r c))) (sum_same (r + 1) cs (omega arith) (omega arith) w.1)

    pub cost_same : (ns : List ℕ) → Renumbering s ns → cost k g ns ≡ cost k g' ns
    cost_same ns renumbers = sum_same 1 ns (omega arith) (let len = renumbers.0 in omega arith) renumbers.1

    pub bounded_same : Bounded k g' s → Bounded k g s
    bounded_same bounded r c rw' cw x e = bounded r c rw' cw x (sym (same r c rw' cw) ∙ e)

    pub certified_same : (ns : List ℕ) (u v : ℕ → C) → Certified k g s ns u v → Certified k g' s ns u v
    certified_same ns u v cert = (
      cert.0,
      sym (allowed_same ns cert.0) ∙ cert.1,
      cert.2,
      cert.3,
      λ r c rw' cw x e. cert.4 r c rw' cw x (same r c rw' cw ∙ e),
      λ r rw' x e. cert.5 r rw' x (same r (get_or ns (r - 1) 0) rw' (number_within s ns cert.0 r rw') ∙ e),
    )
