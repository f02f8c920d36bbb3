-- Pins that are kept in a list, when one place is written, and the rows under them.
use Rattle.std.proofs.Common.{◌≡◌, ℕ, zero, suc, ◌+◌, ◌<◌, ◌≤◌, Bool, true, false, cond, ◌&&◌, ◌||◌, eqb, List, [], ◌∷◌, length, get_or, set, replicate, is_some, is_ok, Some, None, Ok, Err, Option, take, drop, sym, refl, ap, ◌∙◌, ⊎_elim, add-one, arith, length-set, get_or-set_other, get_or-set_same}
use mathlib.Core.Path.{fun_ext}
use Rattle.std.specs.List.{list_any}
use Rattle.std.proofs.Math.Bool.{or_comm}
use Rattle.std.proofs.lemmas.List.Folds.{list_any_more}
use Rattle.std.proofs.lemmas.Bool.{eqb-true, eqb-false, eq-eqb, ne_eqb, cases_lt, cond-true, cond-false, and_from}
use Rattle.tables.specs.Pins.{pins_in, no_pins, repin, under_pin, pinned, pins_to, is_taken, pin_answer, after_pin, pin_at}
use Rattle.tables.specs.Rows.{PinnedRow}
use Rattle.tables.specs.Table.{Table, within, pair_at, row_at}
use Rattle.tables.specs.declared.grade.Grade.{Grade}
use Rattle.tables.specs.declared.grade.Grade.TheVariants.{Closed}
use Rattle.tables.proofs.Rows.{row_is, row_length, row_place, outside_event}

pins_set_by : (xs : List (Option ℕ)) (r e : ℕ) (p : Option ℕ) (b : Bool) → eqb e r ≡ b → r < length xs → get_or (set xs r p) e None ≡ cond b p (get_or xs e None)
pins_set_by xs r e p true q h = rw (eqb-true e r q) (get_or-set_same xs r p None h)
pins_set_by xs r e p false q h = get_or-set_other xs r e p None (eqb-false e r q)

pub pins_set : (xs : List (Option ℕ)) (r : ℕ) (p : Option ℕ) → r < length xs → pins_in (set xs r p) ≡ repin (pins_in xs) r p
pins_set xs r p h = fun_ext (λ e. pins_set_by xs r e p (eqb e r) refl h)

pins_none_by : (n r : ℕ) → get_or {A = Option ℕ} (replicate n None) r None ≡ None
pins_none_by zero r = refl
pins_none_by (suc n) zero = refl
pins_none_by (suc n) (suc r) = pins_none_by n r

pub pins_none : (n : ℕ) → pins_in (replicate n None) ≡ no_pins
pins_none n = fun_ext (pins_none_by n)

-- a search among the pins of the events 1 to n for a number
module _ (test : Option ℕ → Bool) (c : ℕ) (same : (p : Option ℕ) → test p ≡ pins_to c p) where
  searched_from : (x : Option ℕ) (xs : List (Option ℕ)) (n : ℕ) → n ≤ length xs → list_any test (take n xs) ≡ is_taken n (pins_in (x ∷ xs)) c
  searched_from x xs zero h = refl
  searched_from x xs (suc n) h =
      let more : list_any test (take (n + 1) xs) ≡ (list_any test (take n xs) || test (get_or xs n None)) = list_any_more test xs n None (omega arith) in
      (rw add-one at more)
      ∙ or_comm (list_any test (take n xs)) (test (get_or xs n None))
      ∙ ap (λ b. b || list_any test (take n xs)) (same (get_or xs n None))
      ∙ ap (λ b. pins_to c (get_or xs n None) || b) (searched_from x xs n (omega arith))

  pub searched : (xs : List (Option ℕ)) (m n : ℕ) → m ≡ n → n < length xs → list_any test (take m (drop 1 xs)) ≡ is_taken n (pins_in xs) c
  searched [] m n e h = absurd (omega arith)
  searched (x ∷ xs) m n e h = rw e (searched_from x xs n (omega arith))

-- a pin whose number another event has
module _ (s : ℕ) (pins : ℕ → Option ℕ) (r c : ℕ) (event : within s r ≡ true) (number : within s c ≡ true) (unpinned : is_some (pins r) ≡ false) (taken : is_taken s pins c ≡ true) where
  pub pin_meets : pin_answer s pins r c ≡ Err 12
  pin_meets = cond-true _ _ _ (and_from _ _ event number) ∙ cond-false _ _ _ unpinned ∙ cond-true _ _ _ taken

  pub pin_stays : after_pin s pins r c ≡ pins
  pin_stays = cond-false _ _ _ (ap is_ok pin_meets)

-- a pin that is not refused
module _ (s : ℕ) (pins : ℕ → Option ℕ) (r c : ℕ) (event : within s r ≡ true) (number : within s c ≡ true) (unpinned : is_some (pins r) ≡ false) (untaken : is_taken s pins c ≡ false) where
  pub pin_goes : pin_answer s pins r c ≡ Ok tt
  pin_goes = cond-true _ _ _ (and_from _ _ event number) ∙ cond-false _ _ _ unpinned ∙ cond-false _ _ _ untaken

  pub pin_adds : after_pin s pins r c ≡ repin pins r (Some c)
  pin_adds = cond-true _ _ _ (ap is_ok pin_goes)

-- a row whose places are closed one by one
module _ {C : Type 0} (number : ℕ) where
  pub pinned_more : (n : ℕ) (before row : List (Grade C)) → n < length row → (n + 1 ≡ number → ⊥) → PinnedRow number n before row → PinnedRow number (n + 1) before (set row n Closed)
  pinned_more n before row h other p = record {
    whole = length-set row n Closed ∙ p.whole;
    inside = λ j l. ⊎_elim
        (λ below. get_or-set_other row n j Closed Closed (λ (q : j ≡ n). omega arith) ∙ p.inside j below)
        (λ above. let here : j ≡ n = omega arith in rw here (get_or-set_same row n Closed Closed h ∙ sym (cond-false _ _ _ (ne_eqb number (n + 1) (λ e. other (sym e))))))
        (cases_lt j n);
    beyond = λ j l. get_or-set_other row n j Closed Closed (λ (q : j ≡ n). omega arith) ∙ p.beyond j (omega arith);
  }

  pub pinned_own : (n : ℕ) (before row : List (Grade C)) → n + 1 ≡ number → PinnedRow number n before row → PinnedRow number (n + 1) before row
  pinned_own n before row own p = record {
    whole = p.whole;
    inside = λ j l. ⊎_elim
        (λ below. p.inside j below)
        (λ above. let here : j ≡ n = omega arith in rw here (p.beyond n (omega arith) ∙ sym (cond-true _ _ _ (eq-eqb number (n + 1) (sym own)))))
        (cases_lt j n);
    beyond = λ j l. p.beyond j (omega arith);
  }

-- the row of a table under pins
module _ {C : Type 0} (t : Table C) (pins : ℕ → Option ℕ) (r n : ℕ) where
  pair_under : (c : ℕ) (b : Bool) (p : Option ℕ) → (within t.size r && within t.size c) ≡ b → cond b (under_pin p c (t.pairing t.window r c)) Closed ≡ under_pin p c (cond b (t.pairing t.window r c) Closed)
  pair_under c true p e = refl
  pair_under c false None e = refl
  pair_under c false (Some d) e = closed-cond (eqb d c)
    where
      closed-cond : (b : Bool) → ◌≡◌ {A = Grade C} Closed (cond b Closed Closed)
      closed-cond true = refl
      closed-cond false = refl

  -- a pair under pins, from the one below
  pub pair_pinned : (c : ℕ) → pair_at (pinned t pins) r c ≡ under_pin (pins r) c (pair_at t r c)
  pair_pinned c = pair_under c _ (pins r) refl

  -- an event with no pin: each pair as below
  row_same : (row : List (Grade C)) → ((c : ℕ) → pair_at t r c ≡ pair_at (pinned t pins) r c) → row ≡ row_at t r n → row ≡ row_at (pinned t pins) r n
  row_same row same is = row_is (pinned t pins) r n n row (omega arith) (record {
    whole = ap length is ∙ row_length t r n;
    front = λ j h. ap (λ xs. get_or xs j Closed) is ∙ row_place t r n j Closed h ∙ same (j + 1);
  })

  free_by : (b : Bool) → within t.size r ≡ b → cond b (pins r) None ≡ None → (c : ℕ) → pair_at t r c ≡ pair_at (pinned t pins) r c
  free_by true inside free c = sym (pair_pinned c ∙ ap (λ p. under_pin p c (pair_at t r c)) free)
  free_by false out free c = outside_event t r c out ∙ sym (outside_event (pinned t pins) r c out)

  pub row_free : (row : List (Grade C)) → pin_at t.size pins r ≡ None → row ≡ row_at t r n → row ≡ row_at (pinned t pins) r n
  row_free row free is = row_same row (free_by (within t.size r) refl free) is

  own_by : (b : Bool) (d : ℕ) → cond b (pins r) None ≡ Some d → pins r ≡ Some d
  own_by true d e = e
  own_by false d e = let z : ◌≡◌ {A = ℕ} 0 1 = cc in absurd (omega arith)

  -- an event with a pin: the others are closed
  pub row_pinned : (d : ℕ) (before row : List (Grade C)) → pin_at t.size pins r ≡ Some d → before ≡ row_at t r n → PinnedRow d (length before) before row → row ≡ row_at (pinned t pins) r n
  row_pinned d before row own is p =
      let len : length before ≡ n = ap length is ∙ row_length t r n in
      row_is (pinned t pins) r n n row (omega arith) (record {
        whole = p.whole ∙ len;
        front = λ j h.
            p.inside j (omega arith)
            ∙ ap (λ g. cond (eqb d (j + 1)) g Closed) (ap (λ xs. get_or xs j Closed) is ∙ row_place t r n j Closed h)
            ∙ sym (pair_pinned (j + 1) ∙ ap (λ q. under_pin q (j + 1) (pair_at t r (j + 1))) (own_by (within t.size r) d own));
      })
