-- The worked cases, by trying all renumberings.
use Rattle.std.proofs.Common.{◌≡◌, ℕ, Bool, true, false, cond, ◌&&◌, T, eqb, leb, List, [], ◌∷◌, length, Ok, Err, filter, Result, sym, refl, ap, ◌∙◌, subst, inl, inr, lit<}
use Rattle.std.specs.List.{AllByRecursion}
use Rattle.std.proofs.lemmas.Bool.{eqb-true, and_parts, and_from}
use Rattle.costs.specs.Kind.{Kind, Laws, AtMost}
use Rattle.costs.specs.Lists.{In}
use Rattle.costs.specs.Plain.{plain_kind, plain_of}
use Rattle.costs.specs.PairLaws.{pair_laws}
use Rattle.costs.specs.PlainLaws.{plain_laws}
use Rattle.tables.specs.Table.{pair_at}
use Rattle.judge.specs.Allowed.{allowed, cost}
use Rattle.judge.specs.Enumeration.{renumberings}
use Rattle.judge.specs.Least.{judged}
use Rattle.judge.specs.Judging.{Lists, Room, verdict_told, judge_answer}
use Rattle.judge.specs.declared.verdict.Verdict.TheVariants.{Within as Inside, Over}
use Rattle.judge.proofs.Crowds.{from_kept}
use Rattle.judge.proofs.Listing.{enumerated}
use Rattle.judge.proofs.Violators.{in_kept}
use Rattle.watch.specs.Cases.{WorkedCases, Says, Fit, AllFits, fed, plain_pairs, two_plain, by_difference, by_mismatch, by_mixed, six_events, one_event, three_events, two_events, two_feeds, with_pin, pin_removed}
use Rattle.watch.specs.Ledger.{Ledger, standing}
use Rattle.watch.proofs.Outcomes.{roomy}

-- what holds of each that is in a list
pub all_from : {X : Type 0} (P : X → Type 0) (xs : List X) → ((x : X) → In x xs → P x) → AllByRecursion P xs
all_from P [] f = tt
all_from P (x ∷ xs) f = (f x (inl refl), all_from P xs (λ y m. f y (inr m)))

-- two costs are the same
abbrev same : {C : Type 0} → Kind C → C → C → Bool
same k a b = k.at_most a b && k.at_most b a

-- an answer tells this number and this one cost
abbrev tells_one : {C : Type 0} → Kind C → Result (ℕ × List C) ℕ → ℕ → C → Bool
tells_one k (Ok (m, [])) n c = false
tells_one k (Ok (m, a ∷ [])) n c = eqb m n && same k a c
tells_one k (Ok (m, a ∷ b ∷ rest)) n c = false
tells_one k (Err e) n c = false

-- what a judge with lists that are long enough answers
abbrev judge_says : {C : Type 0} → Kind C → Ledger C → Result (ℕ × List C) ℕ
judge_says k l =
    cond (leb l.table.places (length l.table.window)) (Ok (verdict_told (judged k (pair_at (standing l)) l.table.size l.bound))) (Err 14)

with_room : {C : Type 0} (k : Kind C) (l : Ledger C) (h : Lists C) → Room l.table.size h → judge_answer k (standing l) l.bound h ≡ judge_says k l
with_room k l h r = ap (λ (b : Bool). cond b (judge_says k l) (Err 15)) (roomy l.table.size h r)

-- the numbers are allowed, at that cost
abbrev is_at : {C : Type 0} → Kind C → Ledger C → C → List ℕ → Bool
is_at k l c ns = allowed (pair_at (standing l)) ns && same k (cost k (pair_at (standing l)) ns) c

-- those of all renumberings
abbrev tried_at : {C : Type 0} → Kind C → Ledger C → C → List (List ℕ)
tried_at k l c = filter (is_at k l c) (renumberings l.table.size)

module _ {C : Type 0} (k : Kind C) (laws : Laws k) where
  at_most_self : (a : C) → AtMost k a a
  at_most_self a = elim (laws.order_total a a) [ inl h ↦ h | inr h ↦ h ]

  same_is : (a b : C) → same k a b ≡ true → a ≡ b
  same_is a b e = let t = and_parts (k.at_most a b) (k.at_most b a) e in laws.order_antisym a b t.0 t.1

  is_same : (a b : C) → a ≡ b → same k a b ≡ true
  is_same a b e = subst (λ (x : C). same k a x ≡ true) e (and_from (k.at_most a a) (k.at_most a a) (at_most_self a) (at_most_self a))

  told_is : (r : Result (ℕ × List C) ℕ) (n : ℕ) (c : C) → tells_one k r n c ≡ true → r ≡ Ok (n, c ∷ [])
  told_is (Ok (m, [])) n c e = absurd (subst T (sym e) tt)
  told_is (Ok (m, a ∷ [])) n c e =
      let t = and_parts (eqb m n) (same k a c) e in
      let p = eqb-true m n t.0 in
      let q = same_is a c t.1 in
      λ i. Ok (p i, q i ∷ [])
  told_is (Ok (m, a ∷ b ∷ rest)) n c e = absurd (subst T (sym e) tt)
  told_is (Err x) n c e = absurd (subst T (sym e) tt)

  module _ (l : Ledger C) (c : C) where
    within-at : tells_one k (judge_says k l) 0 c ≡ true → Says k l (Inside c)
    within-at e h r = with_room k l h r ∙ told_is (judge_says k l) 0 c e

    over-at : tells_one k (judge_says k l) 1 c ≡ true → Says k l (Over c)
    over-at e h r = with_room k l h r ∙ told_is (judge_says k l) 1 c e

    from-test : (ns : List ℕ) → In ns (tried_at k l c) → Fit k l c ns
    from-test ns m =
        let t = from_kept (is_at k l c) ns (renumberings l.table.size) m in
        let u = and_parts (allowed (pair_at (standing l)) ns) (same k (cost k (pair_at (standing l)) ns) c) t.1 in
        record { renumbering = (enumerated l.table.size ns).1 t.0; is_allowed = u.0; costs = same_is (cost k (pair_at (standing l)) ns) c u.1 }

    to-test : (ns : List ℕ) → Fit k l c ns → In ns (tried_at k l c)
    to-test ns h =
        in_kept (is_at k l c) ns (renumberings l.table.size)
        (and_from (allowed (pair_at (standing l)) ns) (same k (cost k (pair_at (standing l)) ns) c) h.is_allowed (is_same (cost k (pair_at (standing l)) ns) c h.costs))
        ((enumerated l.table.size ns).0 h.renumbering)

    all-at : (found : List (List ℕ)) → tried_at k l c ≡ found → AllFits k l c found
    all-at found e = subst (AllFits k l c) e (record { each = all_from (Fit k l c) (tried_at k l c) from-test; no_other = to-test })

pairs_laws : Laws plain_pairs
pairs_laws = pair_laws plain_kind plain_kind plain_laws plain_laws

pub worked_cases : WorkedCases
worked_cases = record {
  one = within-at plain_kind plain_laws (by_difference 1 6) (plain_of 6) refl;
  one_numbers = all-at plain_kind plain_laws (by_difference 1 6) (plain_of 6) ((5 ∷ 4 ∷ 1 ∷ 3 ∷ 2 ∷ []) ∷ []) refl;
  two = over-at plain_kind plain_laws (by_difference 1 5) (plain_of 6) refl;
  three = with_room plain_kind (by_difference 0 6);
  three_marks = lit< tt;
  four = within-at plain_kind plain_laws (by_mismatch 3) (plain_of 3) refl;
  four_numbers = all-at plain_kind plain_laws (by_mismatch 3) (plain_of 3) ((4 ∷ 5 ∷ 1 ∷ 3 ∷ 2 ∷ []) ∷ []) refl;
  four_over = over-at plain_kind plain_laws (by_mismatch 2) (plain_of 3) refl;
  five = over-at plain_pairs pairs_laws (by_mixed 3 3) (two_plain 3 4) refl;
  five_numbers = all-at plain_pairs pairs_laws (by_mixed 3 3) (two_plain 3 4) ((4 ∷ 5 ∷ 1 ∷ 3 ∷ 2 ∷ []) ∷ []) refl;
  five_within = within-at plain_pairs pairs_laws (by_mixed 4 0) (two_plain 3 4) refl;
  six = within-at plain_kind plain_laws six_events (plain_of 4) refl;
  six_numbers = from-test plain_kind plain_laws six_events (plain_of 4) (3 ∷ 4 ∷ 5 ∷ 2 ∷ 1 ∷ 6 ∷ []) (inl refl);
  seven = within-at plain_kind plain_laws one_event (plain_of 0) refl;
  seven_numbers = all-at plain_kind plain_laws one_event (plain_of 0) ((1 ∷ []) ∷ []) refl;
  eight = within-at plain_kind plain_laws three_events (plain_of 1) refl;
  eight_numbers = all-at plain_kind plain_laws three_events (plain_of 1) ((2 ∷ 3 ∷ 1 ∷ []) ∷ (3 ∷ 2 ∷ 1 ∷ []) ∷ []) refl;
  nine_answers = refl;
  nine = with_room plain_kind with_pin;
  nine_marks = lit< tt;
  nine_unpinned = within-at plain_kind plain_laws pin_removed (plain_of 6) refl;
  ten_answers = refl;
  ten_window = refl;
  ten = within-at plain_kind plain_laws (fed plain_kind two_events two_feeds) (plain_of 0) refl;
  ten_numbers = all-at plain_kind plain_laws (fed plain_kind two_events two_feeds) (plain_of 0) ((1 ∷ 2 ∷ []) ∷ []) refl;
}
