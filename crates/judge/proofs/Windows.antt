-- The verdict on a window, from the grades that were read of its table.
use Rattle.std.proofs.Common.{◌≡◌, ℕ, ◌-◌, true, false, List, take, drop, sym, ap, ◌∙◌, subst, arith}
use Rattle.std.proofs.lemmas.Bool.{cond-true, cond-false}
use Rattle.costs.specs.Kind.{Kind, Laws}
use Rattle.tables.specs.Table.{Table, Within, Sound, pair_at}
use Rattle.tables.specs.declared.grade.Grade.{Grade}
use Rattle.judge.specs.Allowed.{cost}
use Rattle.judge.specs.BitRows.{open_in, stands_in, Agrees}
use Rattle.judge.specs.Judging.{Lists, price_at, Found, Blocked, Exact}
use Rattle.judge.specs.Least.{judged}
use Rattle.judge.specs.Marking.{Written}
use Rattle.judge.specs.Marks.{events_in, Short, Violator}
use Rattle.judge.specs.Matching.{Renumbered}
use Rattle.judge.specs.Prices.{Bounded, Certified}
use Rattle.judge.specs.Settling.{Solvable}
use Rattle.judge.specs.declared.verdict.Verdict.TheVariants.{Within as Inside, Over, None as Never}
use Rattle.judge.proofs.Agreeing.{allowed_same, cost_same, bounded_same, certified_same}
use Rattle.judge.proofs.Blocked.{renumbered_allowed, written_violator}
use Rattle.judge.proofs.Bounds.{sound_bounded}
use Rattle.judge.proofs.Marking.{written_bits}
use Rattle.judge.proofs.Verdicts.{found, judged_found, exact_within, exact_over, none_allowed, judged_blocked, exact_none}

module _ {C : Type 0} (k : Kind C) (laws : Laws k) (t : Table C) (sound : Sound k t) (s : ℕ) (sized : s ≡ t.size) (g : ℕ → ℕ → Grade C) (graded : (r c : ℕ) → Within s r → Within s c → g r c ≡ pair_at t r c) where
  -- where each event can have a number of its own, the grades can be settled
  pub solvable : (rows : List ℕ) → Agrees rows (pair_at t) s → Renumbered (open_in rows) s → Solvable k g s
  solvable rows agrees renumbered =
      let some = renumbered_allowed rows (pair_at t) s agrees renumbered in
      record {
        bounded = bounded_same g (pair_at t) s graded k (subst (Bounded k (pair_at t)) (sym sized) (sound_bounded k t sound));
        numbers = some.0;
        renumbers = some.1;
        is_allowed = allowed_same g (pair_at t) s graded some.0 some.1 ∙ some.2;
      }

  -- a certificate over those grades
  module _ (before after : Lists C) (c : C) (cert : Certified k g s (take s after.numbers) (price_at k after.event_prices) (price_at k after.number_prices)) (costs : c ≡ cost k g (take s after.numbers)) where
    own : Certified k (pair_at t) t.size (take t.size after.numbers) (price_at k after.event_prices) (price_at k after.number_prices)
    own = subst (λ n. Certified k (pair_at t) n (take n after.numbers) (price_at k after.event_prices) (price_at k after.number_prices)) sized
        (certified_same g (pair_at t) s graded k (take s after.numbers) (price_at k after.event_prices) (price_at k after.number_prices) cert)

    own-cost : c ≡ cost k (pair_at t) (take t.size after.numbers)
    own-cost = costs ∙ cost_same g (pair_at t) s graded k (take s after.numbers) cert.0 ∙ ap (λ n. cost k (pair_at t) (take n after.numbers)) sized

    pub window_found : drop s after.numbers ≡ drop s before.numbers → drop s after.event_prices ≡ drop s before.event_prices → drop s after.number_prices ≡ drop s before.number_prices → after.marks ≡ before.marks → Found k t c before after
    window_found a b d e = found k laws t sound before after c own own-cost (at_size after.numbers before.numbers a) (at_size after.event_prices before.event_prices b) (at_size after.number_prices before.number_prices d) e
      where
        at_size : {X : Type 0} (xs ys : List X) → drop s xs ≡ drop s ys → drop t.size xs ≡ drop t.size ys
        at_size xs ys p = subst (λ n. drop n xs ≡ drop n ys) sized p

    module _ (bound : C) where
      pub window_within : k.at_most c bound ≡ true → Inside c ≡ judged k (pair_at t) t.size bound
      window_within le = sym (judged_found k laws t sound before after c own own-cost bound ∙ cond-true _ _ _ le)

      pub window_over : k.at_most c bound ≡ false → Over c ≡ judged k (pair_at t) t.size bound
      window_over gt = sym (judged_found k laws t sound before after c own own-cost bound ∙ cond-false _ _ _ gt)

      pub within_exact : k.at_most c bound ≡ true → Exact k t bound (Inside c)
      within_exact = exact_within k laws t sound before after c own own-cost bound

      pub over_exact : k.at_most c bound ≡ false → Exact k t bound (Over c)
      over_exact = exact_over k laws t sound before after c own own-cost bound

  -- a marked set
  module _ (rows : List ℕ) (agrees : Agrees rows (pair_at t) s) (set : ℕ) (before after : Lists C) (short : Short (open_in rows) s (events_in s (stands_in set))) (written : Written set s before.marks after.marks) where
    own-short : Violator (pair_at t) t.size after.marks
    own-short = subst (λ n. Violator (pair_at t) n after.marks) sized (written_violator rows (pair_at t) s agrees set before.marks after.marks short written)

    pub window_blocked : after.numbers ≡ before.numbers → after.event_prices ≡ before.event_prices → after.number_prices ≡ before.number_prices → Blocked t before after
    window_blocked a b d = record {
      none_allowed = none_allowed k laws t sound after.marks own-short;
      bits = λ r w. written_bits set s before.marks after.marks written (r - 1) (let low = w.0 in let high = w.1 in omega arith);
      short = own-short;
      marks_beyond = subst (λ n. drop n after.marks ≡ drop n before.marks) sized written.rest;
      numbers_same = a;
      event_prices_same = b;
      number_prices_same = d;
    }

    pub window_none : (bound : C) → Never ≡ judged k (pair_at t) t.size bound
    window_none bound = sym (judged_blocked k laws t sound after.marks own-short bound)

    pub none_exact : (bound : C) → Exact k t bound Never
    none_exact = exact_none k laws t sound after.marks own-short
