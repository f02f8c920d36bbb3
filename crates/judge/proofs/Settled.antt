-- A seating of all events is a renumbering that its prices prove cheapest; so one or the other certificate there always is.
use Rattle.std.proofs.Common.{◌≡◌, ℕ, suc, ◌+◌, ◌-◌, ◌<◌, ◌≤◌, true, ◌⊎◌, List, [], ◌∷◌, map, length, get_or, sym, refl, ap, ◌∙◌, subst, inl, inr, arith}
use lib.ListN.{length-map}
use Rattle.std.proofs.lemmas.List.FromFn.{get_or-map-range_with_len, length-range_with_len}
use Rattle.std.proofs.ByRecursion.{All-from_get_or}
use Rattle.std.proofs.lemmas.Bool.{and_from}
use Rattle.costs.specs.Kind.{Kind}
use Rattle.costs.specs.Lists.{In, Apart}
use Rattle.tables.specs.Table.{Within}
use Rattle.tables.specs.declared.grade.Grade.{Grade}
use Rattle.tables.specs.declared.grade.Grade.TheVariants.{Open}
use Rattle.judge.specs.Renumbering.{up_to, pairs_from}
use Rattle.judge.specs.Allowed.{is_open, all_open}
use Rattle.judge.specs.Prices.{Tight, Certified}
use Rattle.judge.specs.Marks.{Violator}
use Rattle.judge.specs.Right.{Settled}
use Rattle.judge.specs.Seating.{Fit, Seating}
use Rattle.judge.proofs.Growth.{TooMany, SeatedTo, all_seated}

in_place : (c : ℕ) (cs : List ℕ) → In c cs → (i : ℕ) × (i < length cs) × (get_or cs i 0 ≡ c)
in_place c [] h = absurd h
in_place c (x ∷ xs) (inl e) = (0, omega arith, sym e)
in_place c (x ∷ xs) (inr h) = let t = in_place c xs h in (suc t.0, omega (arith, t.1), t.2)

pub apart_places : (ns : List ℕ) → ((i j : ℕ) → i < length ns → j < length ns → get_or ns i 0 ≡ get_or ns j 0 → i ≡ j) → Apart ns
apart_places [] f = tt
apart_places (c ∷ cs) f = (
  λ m. let t = in_place c cs m in let z : 0 ≡ suc t.0 = f 0 (suc t.0) (omega arith) (omega (arith, t.1)) (sym t.2) in omega arith,
  apart_places cs (λ i j p q e. let z : suc i ≡ suc j = f (suc i) (suc j) (omega arith) (omega arith) e in omega arith),
)

pub open_all : {C : Type 0} (g : ℕ → ℕ → Grade C) (ns : List ℕ) (r : ℕ) → ((i : ℕ) → i < length ns → is_open (g (r + i) (get_or ns i 0)) ≡ true) → all_open g (pairs_from r ns) ≡ true
open_all g [] r f = refl
open_all g (c ∷ cs) r f =
    and_from (is_open (g r c)) (all_open g (pairs_from (r + 1) cs)) (subst (λ (a : ℕ). is_open (g a c) ≡ true) (omega arith) (f 0 (omega arith)))
    (open_all g cs (r + 1) (λ i h. subst (λ (a : ℕ). is_open (g a (get_or cs i 0)) ≡ true) (omega arith) (f (suc i) (omega arith))))

module _ {C : Type 0} (k : Kind C) (g : ℕ → ℕ → Grade C) (s : ℕ) where
  -- the list of the seats of all events, with the prices
  pub certified : (seat h : ℕ → ℕ) (u v : ℕ → C) → Seating k g s seat h u v → ((i : ℕ) → Within s i → 1 ≤ seat i) → (ns : List ℕ) → length ns ≡ s → ((r : ℕ) → Within s r → get_or ns (r - 1) 0 ≡ seat r) → Certified k g s ns u v
  certified seat h u v seating all ns len listed = (
    (len, All-from_get_or (Within s) ns 0 (λ i l. place-within i (omega arith)), apart_places ns (λ i j p q e. alone i j (omega arith) (omega arith) e)),
    open_all g ns 1 (λ i l. opens i (omega arith)),
    (λ i iw. seating.small_u i iw (all i iw)),
    seating.small_v,
    (λ i c iw cw x o. seating.under i c iw (all i iw) cw x o),
    tight,
  )
    where
      at_place : (i : ℕ) → i < s → get_or ns i 0 ≡ seat (suc i)
      at_place i l = let e : suc i - 1 ≡ i = omega arith in ap (λ (z : ℕ). get_or ns z 0) (sym e) ∙ listed (suc i) (omega arith)

      seat_in : (i : ℕ) → i < s → Within s (seat (suc i))
      seat_in i l = (all (suc i) (omega arith), seating.seat_within (suc i) (omega arith))

      place-within : (i : ℕ) → i < s → Within s (get_or ns i 0)
      place-within i l = subst (Within s) (sym (at_place i l)) (seat_in i l)

      back : (i : ℕ) → i < s → h (seat (suc i)) ≡ suc i
      back i l = seating.seat_holder (suc i) (omega arith) (seat_in i l).0

      alone : (i j : ℕ) → i < s → j < s → get_or ns i 0 ≡ get_or ns j 0 → i ≡ j
      alone i j l m e = let z : suc i ≡ suc j = sym (back i l) ∙ ap h (sym (at_place i l) ∙ e ∙ at_place j m) ∙ back j m in omega arith

      tied : (i : ℕ) → i < s → Fit k g s u v (suc i) (get_or ns i 0)
      tied i l =
          subst (λ (c : ℕ). Fit k g s u v (suc i) c) (sym (at_place i l))
          (subst (λ (r : ℕ). Fit k g s u v r (seat (suc i))) (back i l) (seating.tight (seat (suc i)) (seat_in i l) (omega (arith, back i l))))

      opens : (i : ℕ) → i < s → is_open (g (1 + i) (get_or ns i 0)) ≡ true
      opens i l = let e : 1 + i ≡ suc i = omega arith in ap (λ (r : ℕ). is_open (g r (get_or ns i 0))) e ∙ ap is_open (tied i l).1

      tight : Tight k g s ns u v
      tight r w x o =
          let i = r - 1 in
          let e : suc i ≡ r = omega (arith, w) in
          let z = tied i (omega (arith, w)) in
          let m : g (suc i) (get_or ns i 0) ≡ Open x = ap (λ (q : ℕ). g q (get_or ns i 0)) e ∙ o in
          let same : z.0 ≡ x = cc (z.1, m) in
          ap (λ (q : ℕ). k.plus (u q) (v (get_or ns i 0))) (sym e) ∙ z.2 ∙ same

pub settled : (C : Type 0) → Settled C
settled C k laws g s size bounded = go (all_seated k laws g s size bounded s (omega arith))
  where
    go : TooMany k laws g s size bounded ⊎ SeatedTo k laws g s size bounded s → ((marks : List ℕ) × Violator g s marks) ⊎ ((ns : List ℕ) × (u : ℕ → C) × (v : ℕ → C) × Certified k g s ns u v)
    go (inl x) = inl x
    go (inr x) =
        inr (
          map x.0 (up_to s),
          x.2,
          x.3,
          certified k g s x.0 x.1 x.2 x.3 x.4 x.5 (map x.0 (up_to s)) (length-map (up_to s) x.0 ∙ length-range_with_len 1 s)
              (λ r w. get_or-map-range_with_len x.0 1 s (r - 1) r 0 (omega (arith, w)) (omega (arith, w))),
        )
