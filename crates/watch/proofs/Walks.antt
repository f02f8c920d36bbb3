-- A walk that is one event longer.
use Rattle.std.proofs.Common.{◌≡◌, ℕ, ◌+◌, ◌<◌, Bool, true, false, cond, List, [], ◌∷◌, ◌++◌, length, get_or, take, drop, Some, None, Option, sym, refl, ap, ◌∙◌, subst, add-one, arith, drop-cons}
use Rattle.std.proofs.lemmas.List.Sums.{fold-append}
use Rattle.std.proofs.lemmas.List.{take_more}
use Rattle.costs.specs.Kind.{Kind}
use Rattle.tables.specs.Table.{within, with_window, last}
use Rattle.watch.specs.Ledger.{Ledger, after_feed}
use Rattle.judge.specs.Judging.{Lists, Room}
use Rattle.watch.specs.Walking.{outcome, onward, walk, after_feeds, LeftBy, EndsOr, Walked}
use Rattle.watch.specs.declared.walk.Next.{Next}
use Rattle.judge.specs.declared.verdict.Verdict.{Verdict}
use Rattle.judge.specs.declared.verdict.Verdict.TheVariants.{Within as Inside, Over, None as Never}

-- what was fed and counted, and then the walk w
abbrev pub ahead : {C : Type 0} → ℕ → ℕ → ℕ → Next C → Next C
ahead i over none w =
    record { fed = i + w.fed; hit = w.hit; counts = (w.counts.0, over + w.counts.1, none + w.counts.2) }

module _ {C : Type 0} (i o n : ℕ) (w : Next C) where
  pub ahead_short : ahead i o n (onward None w) ≡ ahead (i + 1) o n w
  ahead_short =
      let fed : i + (w.fed + 1) ≡ i + 1 + w.fed = omega arith in
      λ j. record { fed = fed j; hit = w.hit; counts = (w.counts.0, o + w.counts.1, n + w.counts.2) }

  pub ahead_miss : (c : C) → ahead i o n (onward (Some (Over c)) w) ≡ ahead (i + 1) (o + 1) n w
  ahead_miss c =
      let fed : i + (w.fed + 1) ≡ i + 1 + w.fed = omega arith in
      let over : o + (w.counts.1 + 1) ≡ o + 1 + w.counts.1 = omega arith in
      λ j. record { fed = fed j; hit = w.hit; counts = (w.counts.0, over j, n + w.counts.2) }

  pub ahead_blocked : ahead i o n (onward (Some Never) w) ≡ ahead (i + 1) o (n + 1) w
  ahead_blocked =
      let fed : i + (w.fed + 1) ≡ i + 1 + w.fed = omega arith in
      let none : n + (w.counts.2 + 1) ≡ n + 1 + w.counts.2 = omega arith in
      λ j. record { fed = fed j; hit = w.hit; counts = (w.counts.0, o + w.counts.1, none j) }

-- the size stays when an event is fed
pub size_stays : {C : Type 0} (l : Ledger C) (e : ℕ) → (after_feed l e).table.size ≡ l.table.size
size_stays l e = go (within l.table.size e)
  where
    go : (b : Bool) → (cond b (with_window l.table (last l.table.places (l.table.window ++ (e ∷ [])))) l.table).size ≡ l.table.size
    go true = refl
    go false = refl

-- the rest of a list that has an event at i
pub rest_at : (xs : List ℕ) (i : ℕ) → i < length xs → drop i xs ≡ get_or xs i 0 ∷ drop (i + 1) xs
rest_at xs i h = rw (add-one, drop-cons xs i 0) refl

-- where a walk has come after i events without a hit: what it counted, the ledger, and what the lists hold
pub record Came {C : Type 0} (k : Kind C) (start here : Ledger C) (events : List ℕ) (i o n : ℕ) (before between : Lists C) : Type 0 where
  pub answer : walk k start events ≡ ahead i o n (walk k here (drop i events))
  pub ledger : here ≡ after_feeds start (take i events)
  pub left : (after : Lists C) → Walked k here (drop i events) between after → Walked k start events before after

-- one event more
module _ {C : Type 0} {k : Kind C} {start here : Ledger C} {events : List ℕ} {i o n : ℕ} {before between : Lists C} (came : Came k start here events i o n before between) (h : i < length events) (x : Option (Verdict C)) (is : x ≡ outcome k (after_feed here (get_or events i 0))) (next : Ledger C) (fed : next ≡ after_feed here (get_or events i 0)) (after : Lists C) (by : LeftBy k (after_feed here (get_or events i 0)) x between after) where
  e : ℕ
  e = get_or events i 0

  rest_answer : walk k start events ≡ ahead i o n (onward x (walk k next (drop (i + 1) events)))
  unfolding e
  rest_answer =
      came.answer
      ∙ ap (λ (es : List ℕ). ahead i o n (walk k here es)) (rest_at events i h)
      ∙ (λ j. ahead i o n (onward (sym is j) (walk k (sym fed j) (drop (i + 1) events))))

  pub more_ledger : next ≡ after_feeds start (take (i + 1) events)
  unfolding e
  more_ledger =
      fed
      ∙ ap (λ (l : Ledger C). after_feed l e) came.ledger
      ∙ sym (fold-append after_feed start (take i events) (e ∷ []))
      ∙ ap (after_feeds start) (sym (take_more events i 0 h))

  -- the lists, once it is known what they hold after the rest
  rest_left : (final : Lists C) → EndsOr x (final ≡ after) (Walked k next (drop (i + 1) events) after final) → Walked k start events before final
  unfolding e
  rest_left final w =
      let rest : EndsOr x (final ≡ after) (Walked k (after_feed here e) (drop (i + 1) events) after final) =
      subst (λ (l : Ledger C). EndsOr x (final ≡ after) (Walked k l (drop (i + 1) events) after final)) fed w in
      let step : (y : Option (Verdict C)) → Type 0 =
      λ y. LeftBy k (after_feed here e) y between after × EndsOr y (final ≡ after) (Walked k (after_feed here e) (drop (i + 1) events) after final) in
      let both : step (outcome k (after_feed here e)) = subst step is (by, rest) in
      came.left final (subst (λ (es : List ℕ). Walked k here es between final) (sym (rest_at events i h)) (after, both.0, both.1))

  -- without a hit the walk goes on
  goes_on : (y : Option (Verdict C)) → x ≡ y → (o' n' : ℕ) → ((w : Next C) → ahead i o n (onward y w) ≡ ahead (i + 1) o' n' w) → ((final : Lists C) → Walked k next (drop (i + 1) events) after final → EndsOr y (final ≡ after) (Walked k next (drop (i + 1) events) after final)) → Came k start next events (i + 1) o' n' before after
  goes_on y same o' n' counts goes = record {
    answer = rest_answer ∙ ap (λ (z : Option (Verdict C)). ahead i o n (onward z (walk k next (drop (i + 1) events)))) same ∙ counts (walk k next (drop (i + 1) events));
    ledger = more_ledger;
    left = λ final w. rest_left final (subst (λ (z : Option (Verdict C)). EndsOr z (final ≡ after) (Walked k next (drop (i + 1) events) after final)) (sym same) (goes final w));
  }

  pub short_goes_on : x ≡ None → Came k start next events (i + 1) o n before after
  short_goes_on same = goes_on None same o n (ahead_short i o n) (λ final w. w)

  pub miss_goes_on : (c : C) → x ≡ Some (Over c) → Came k start next events (i + 1) (o + 1) n before after
  miss_goes_on c same = goes_on (Some (Over c)) same (o + 1) n (λ w. ahead_miss i o n w c) (λ final w. w)

  pub blocked_goes_on : x ≡ Some Never → Came k start next events (i + 1) o (n + 1) before after
  blocked_goes_on same = goes_on (Some Never) same o (n + 1) (ahead_blocked i o n) (λ final w. w)

  -- a hit ends it
  pub hit_left : (c : C) → x ≡ Some (Inside c) → Walked k start events before after
  hit_left c hit =
      rest_left after (subst (λ (y : Option (Verdict C)). EndsOr y (after ≡ after) (Walked k next (drop (i + 1) events) after after)) (sym hit) refl)

-- the lists keep room while events are fed
pub room_stays : {C : Type 0} (l next : Ledger C) (e : ℕ) (between after : Lists C) → next ≡ after_feed l e → Room l.table.size between → length after.numbers ≡ length between.numbers → length after.event_prices ≡ length between.event_prices → length after.number_prices ≡ length between.number_prices → length after.marks ≡ length between.marks → length after.work ≡ length between.work → Room next.table.size after
room_stays l next e between after fed room ns us vs ms ws =
    let same : next.table.size ≡ l.table.size = ap (λ (m : Ledger _). m.table.size) fed ∙ size_stays l e in
    record {
      numbers = omega arith;
      event_prices = omega arith;
      number_prices = omega arith;
      marks = omega arith;
      work = omega arith;
    }
