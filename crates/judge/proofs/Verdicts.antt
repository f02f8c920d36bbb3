-- What a certificate or a marked set tells of the verdict.
use Rattle.std.proofs.Common.{◌≡◌, ℕ, true, false, cond, List, take, drop, sym, refl, ap, ◌∙◌, subst}
use Rattle.std.proofs.lemmas.Bool.{false≢true}
use Rattle.costs.specs.Kind.{Kind, Laws, AtMost}
use Rattle.costs.specs.Sums.{sum_of}
use Rattle.tables.specs.Table.{Table, Sound, pair_at}
use Rattle.judge.specs.Renumbering.{Renumbering, up_to}
use Rattle.judge.specs.Allowed.{allowed, cost}
use Rattle.judge.specs.Prices.{Cheapest, Certified}
use Rattle.judge.specs.Marks.{Violator}
use Rattle.judge.specs.Least.{judged}
use Rattle.judge.specs.Judging.{Lists, price_at, Found, Possible, Exact}
use Rattle.judge.specs.declared.verdict.Verdict.TheVariants.{Within as Inside, Over, None as Never}
use Rattle.judge.proofs.Bounds.{sound_bounded, sound_size}
use Rattle.judge.proofs.Duality.{duality}
use Rattle.judge.proofs.Right.{right}
use Rattle.judge.proofs.Violators.{violators}

module _ {C : Type 0} (k : Kind C) (laws : Laws k) (t : Table C) (sound : Sound k t) where
  -- a certificate in the lists
  module _ (before after : Lists C) (c : C) (cert : Certified k (pair_at t) t.size (take t.size after.numbers) (price_at k after.event_prices) (price_at k after.number_prices)) (costs : c ≡ cost k (pair_at t) (take t.size after.numbers)) where
    dual : (cost k (pair_at t) (take t.size after.numbers) ≡ k.plus (sum_of k (price_at k after.event_prices) (up_to t.size)) (sum_of k (price_at k after.number_prices) (up_to t.size))) × Cheapest k (pair_at t) t.size (take t.size after.numbers)
    dual = duality C k laws (pair_at t) t.size (price_at k after.event_prices) (price_at k after.number_prices) (take t.size after.numbers) (sound_size k t sound) (sound_bounded k t sound) cert.2 cert.3 cert.4 cert.0 cert.1 cert.5

    pub found : drop t.size after.numbers ≡ drop t.size before.numbers → drop t.size after.event_prices ≡ drop t.size before.event_prices → drop t.size after.number_prices ≡ drop t.size before.number_prices → after.marks ≡ before.marks → Found k t c before after
    found a b d e = record {
      renumbering = cert.0;
      is_allowed = cert.1;
      costs = sym costs;
      least = λ ms renumbers al. rw costs (dual.1.2 ms renumbers al);
      event_spans = cert.2;
      number_spans = cert.3;
      under = cert.4;
      adds_up = sym (costs ∙ dual.0);
      numbers_beyond = a;
      event_prices_beyond = b;
      number_prices_beyond = d;
      marks_same = e;
    }

    pub judged_found : (bound : C) → judged k (pair_at t) t.size bound ≡ cond (k.at_most c bound) (Inside c) (Over c)
    judged_found bound =
        let tell = ((right C k laws (pair_at t) t.size bound (sound_size k t sound) (sound_bounded k t sound)).0 (take t.size after.numbers) (price_at k after.event_prices) (price_at k after.number_prices) cert).1 in
        tell ∙ ap (λ x. cond (k.at_most x bound) (Inside x) (Over x)) (sym costs)

    pub exact_within : (bound : C) → k.at_most c bound ≡ true → Exact k t bound (Inside c)
    exact_within bound le = record {
      within_only = λ e. (take t.size after.numbers, cert.0, cert.1, subst (λ x. AtMost k x bound) costs le);
      within_all = λ a. refl;
      none_only = λ e p. false≢true e;
      none_all = λ no. absurd (no (take t.size after.numbers, cert.0, cert.1));
    }

    pub exact_over : (bound : C) → k.at_most c bound ≡ false → Exact k t bound (Over c)
    exact_over bound gt = record {
      within_only = λ e. absurd (false≢true e);
      within_all = λ a. absurd (false≢true (sym gt ∙ laws.order_trans c (cost k (pair_at t) a.0) bound (rw costs (dual.1.2 a.0 a.1 a.2)) a.3));
      none_only = λ e p. false≢true e;
      none_all = λ no. absurd (no (take t.size after.numbers, cert.0, cert.1));
    }

  -- a marked set
  module _ (marks : List ℕ) (short : Violator (pair_at t) t.size marks) where
    pub none_allowed : (ms : List ℕ) → Renumbering t.size ms → allowed (pair_at t) ms ≡ false
    none_allowed = violators C (pair_at t) t.size marks short

    pub judged_blocked : (bound : C) → judged k (pair_at t) t.size bound ≡ Never
    judged_blocked bound = (right C k laws (pair_at t) t.size bound (sound_size k t sound) (sound_bounded k t sound)).1 marks short

    impossible : Possible t → ⊥
    impossible p = false≢true (sym (none_allowed p.0 p.1) ∙ p.2)

    pub exact_none : (bound : C) → Exact k t bound Never
    exact_none bound = record {
      within_only = λ e. absurd (false≢true e);
      within_all = λ a. absurd (impossible (a.0, a.1, a.2));
      none_only = λ e p. impossible p;
      none_all = λ no. refl;
    }
