-- Prices prove a renumbering cheapest.
use Rattle.std.proofs.Common.{◌≡◌, ℕ, zero, suc, ◌+◌, ◌-◌, ◌*◌, ◌<◌, ◌≤◌, true, List, length, get_or, sym, ap, ◌∙◌, subst, arith}
use Rattle.std.specs.List.{range_with_len, AllByRecursion}
use Rattle.std.proofs.lemmas.List.FromFn.{length-range_with_len}
use Rattle.costs.specs.Kind.{Kind, Laws, AtMost}
use Rattle.costs.specs.Sums.{sum_of, spans}
use Rattle.tables.specs.declared.grade.Grade.{Grade}
use Rattle.judge.specs.Renumbering.{up_to, Renumbering, pairs}
use Rattle.judge.specs.Allowed.{cost_of, allowed, pair_cost, cost}
use Rattle.judge.specs.Prices.{Bounded, Priced, Under, Tight}
use Rattle.judge.specs.Theorems.{Duality}
use Rattle.costs.proofs.Sums.{spans_le, sum_of_same, spans_reindex, sum_of_both, spans_both, sum_of_rises, reindex}
use Rattle.judge.proofs.Pairs.{in_up_to, all_places, opened, all_pairs, open_places, firsts, seconds, spans_firsts, spans_seconds, length_pairs}

-- each of the numbers counted
all_counting : (P : ℕ → Type 0) (a n : ℕ) → ((c : ℕ) → a ≤ c → c < a + n → P c) → AllByRecursion P (range_with_len a n)
all_counting P a zero f = tt
all_counting P a (suc n) f = (f a (omega arith) (omega arith), all_counting P (a + 1) n (λ c h l. f c (omega arith) (omega arith)))

-- what bounds the cost of an allowed renumbering
pub cost_spans : {C : Type 0} (k : Kind C) (g : ℕ → ℕ → Grade C) (s : ℕ) → Bounded k g s → (ns : List ℕ) → Renumbering s ns → allowed g ns ≡ true → spans k (pair_cost k g) (pairs ns) ≤ s * 100000
cost_spans k g s bounded ns re ok =
    omega (
      arith,
      length_pairs 1 ns,
      re.0,
      spans_le k (pair_cost k g) 100000 (pairs ns)
          (all_pairs g (λ a b. k.span (cost_of k (g a b)) ≤ 100000) s (λ a b wa wb x e. subst (λ y. k.span (cost_of k y) ≤ 100000) (sym e) (bounded a b wa wb x e)) 1 ns (omega arith) (omega (arith, re.0)) re.1 ok),
    )

module _ {C : Type 0} (k : Kind C) (laws : Laws k) (g : ℕ → ℕ → Grade C) (s : ℕ) (u v : ℕ → C) (small : s ≤ 64) (bounded : Bounded k g s) (up : Priced k s u) (vp : Priced k s v) where
  prices : ℕ × ℕ → C
  prices p = k.plus (u p.0) (v p.1)

  spans_up_to : (w : ℕ → C) → Priced k s w → spans k w (up_to s) ≤ s * 1000000000
  spans_up_to w h = omega (arith, spans_le k w 1000000000 (up_to s) (all_counting (λ c. k.span (w c) ≤ 1000000000) 1 s (λ c l m. h c (l, omega arith))), length-range_with_len 1 s)

  module _ (ns : List ℕ) (re : Renumbering s ns) where
    same-u : sum_of k (λ (p : ℕ × ℕ). u p.0) (pairs ns) ≡ sum_of k u (up_to s)
    same-u = firsts k u 1 ns ∙ ap (λ (n : ℕ). sum_of k u (range_with_len 1 n)) re.0

    same-v : sum_of k (λ (p : ℕ × ℕ). v p.1) (pairs ns) ≡ sum_of k v (up_to s)
    same-v = seconds k v 1 ns ∙ reindex k laws v ns (up_to s) re.2 (in_up_to s ns re.1) (re.0 ∙ sym (length-range_with_len 1 s)) (omega (arith, spans_up_to v vp))

    span-u : spans k (λ (p : ℕ × ℕ). u p.0) (pairs ns) ≤ s * 1000000000
    span-u = subst (λ (n : ℕ). n ≤ s * 1000000000) (sym (spans_firsts k u 1 ns ∙ ap (λ (n : ℕ). spans k u (range_with_len 1 n)) re.0)) (spans_up_to u up)

    span-v : spans k (λ (p : ℕ × ℕ). v p.1) (pairs ns) ≤ s * 1000000000
    span-v = subst (λ (n : ℕ). n ≤ s * 1000000000) (sym (spans_seconds k v 1 ns ∙ spans_reindex k v ns (up_to s) re.2 (in_up_to s ns re.1) (re.0 ∙ sym (length-range_with_len 1 s)))) (spans_up_to v vp)

    -- the prices of any renumbering's pairs come to all the prices
    all-prices : sum_of k prices (pairs ns) ≡ k.plus (sum_of k u (up_to s)) (sum_of k v (up_to s))
    unfolding prices
    all-prices =
        sum_of_both k laws (λ (p : ℕ × ℕ). u p.0) (λ (p : ℕ × ℕ). v p.1) (pairs ns) (omega (arith, span-u, span-v))
        ∙ ap (λ x. k.plus x (sum_of k (λ (p : ℕ × ℕ). v p.1) (pairs ns))) same-u ∙ ap (k.plus (sum_of k u (up_to s))) same-v

    span-prices : spans k prices (pairs ns) ≤ s * 2000000000
    unfolding prices
    span-prices = omega (arith, span-u, span-v, spans_both k laws (λ (p : ℕ × ℕ). u p.0) (λ (p : ℕ × ℕ). v p.1) (pairs ns))

    -- any allowed renumbering costs at least all the prices
    pub at_least : Under k g s u v → allowed g ns ≡ true → AtMost k (k.plus (sum_of k u (up_to s)) (sum_of k v (up_to s))) (cost k g ns)
    unfolding prices
    at_least under ok =
        subst (λ x. AtMost k x (cost k g ns)) all-prices
        (sum_of_rises k laws prices (pair_cost k g) (pairs ns) (omega (arith, span-prices, cost_spans k g s bounded ns re ok))
        (all_pairs g (λ a b. AtMost k (k.plus (u a) (v b)) (cost_of k (g a b))) s
        (λ a b wa wb x e. subst (λ y. AtMost k (k.plus (u a) (v b)) (cost_of k y)) (sym e) (under a b wa wb x e))
        1 ns (omega arith) (omega (arith, re.0)) re.1 ok))

    -- a renumbering with tight pairs costs just that
    pub just : allowed g ns ≡ true → Tight k g s ns u v → cost k g ns ≡ k.plus (sum_of k u (up_to s)) (sum_of k v (up_to s))
    unfolding prices
    just ok tight =
        sym (sum_of_same k prices (pair_cost k g) (pairs ns) (all_places (λ a b. k.plus (u a) (v b) ≡ cost_of k (g a b)) ns 1 one)) ∙ all-prices
      where
        one : (i : ℕ) → i < length ns → k.plus (u (1 + i)) (v (get_or ns i 0)) ≡ cost_of k (g (1 + i) (get_or ns i 0))
        one i h =
            let x = opened (g (1 + i) (get_or ns i 0)) (open_places g ns 1 ok i h) in
            let back : 1 + i - 1 ≡ i = omega arith in
            let held = tight (1 + i) (omega (arith, re.0)) x.0 in
            let fits = rw back at held in
            fits x.1 ∙ ap (cost_of k) (sym x.1)

pub duality : (C : Type 0) → Duality C
duality C k laws g s u v ns small bounded up vp under re ok tight =
    let is = just k laws g s u v small bounded up vp ns re ok tight in
    (is, (re, ok, λ ms rf fine. subst (λ x. AtMost k x (cost k g ms)) (sym is) (at_least k laws g s u v small bounded up vp ms rf under fine)))
