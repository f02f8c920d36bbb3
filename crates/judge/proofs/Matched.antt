-- How the table of holders starts, goes on and ends: each event has a number, or a set of events is crowded.
use Rattle.std.proofs.Common.{◌≡◌, ℕ, zero, suc, ◌+◌, ◌-◌, ◌/◌, ◌%◌, ◌^◌, ◌<◌, ◌≤◌, true, not, List, [], ◌∷◌, length, get_or, replicate, Some, None, Option, sym, refl, ap, ◌∙◌, subst, inl, inr, arith}
use Rattle.std.proofs.lemmas.List.{length-replicate}
use Rattle.std.proofs.ByRecursion.{All-from_get_or}
use Rattle.std.proofs.lemmas.Bool.{cases_eq, eqb-true, eq-eqb, eqb-false, ne_eqb, not-true, not_from_false}
use Rattle.judge.specs.BitRows.{Has, Shut, stands_in, open_in}
use Rattle.judge.specs.Matching.{Holds, Seated, Filled, Placed, Tried, Renumbered}
use Rattle.judge.specs.Moves.{Joined, Refused, Marks}
use Rattle.judge.specs.declared.matching.Matching.{Matching}
use Rattle.tables.specs.Limits.{max_size}
use Rattle.tables.specs.Table.{Within}
use Rattle.judge.specs.Marks.{events_in, Short}
use Rattle.std.proofs.lemmas.Nat.Bits.{bit_at_ones}
use Rattle.judge.proofs.Bits.{has_below}
use Rattle.judge.proofs.Holders.{none_holds, one_holder}
use Rattle.judge.proofs.Settled.{apart_places}
use Rattle.judge.proofs.Crowds.{crowded}

-- an empty table has no holder
nobody : (n e c : ℕ) → Holds (replicate n None) e c → ⊥
nobody zero e c h = none_holds (get_or (replicate 0 None) c None) e refl h
nobody (suc n) e zero h = none_holds (get_or (replicate (suc n) None) 0 None) e refl h
nobody (suc n) e (suc c) h = nobody n e c h

-- so its holders are placed rightly
pub placed_none : (rows : List ℕ) (n : ℕ) → n ≡ max_size → Placed rows (replicate n None)
placed_none rows n l = record {
  long = length-replicate n None ∙ l;
  sound = λ e c h. absurd (nobody n e c h);
  once = λ e c d h k. absurd (nobody n e c h);
}

-- and no event is seated in it
pub filled_none : (n : ℕ) → Filled (replicate n None) 0
filled_none n e = (λ l. absurd (omega arith), λ s. absurd (nobody n e s.0 s.1))

-- one event more is seated
pub filled_more : (before after : Matching) (n : ℕ) → Joined before after n → Filled before.holders n → Filled after.holders (n + 1)
filled_more before after n j f e = (
  λ l. elim (cases_eq e n) [ inl same ↦ subst (λ (x : ℕ). Seated after.holders x) (sym same) j.here | inr other ↦ j.stay e ((f e).0 (omega arith)) ],
  λ s. elim (j.only e s) [ inl t ↦ omega (arith, (f e).1 t) | inr same ↦ omega arith ],
)

-- one choice for each place, as a list
choices : (P : ℕ → ℕ → Type 0) (n : ℕ) → ((e : ℕ) → e < n → (c : ℕ) × P e c) → (ns : List ℕ) × (length ns ≡ n) × ((e : ℕ) → e < n → P e (get_or ns e 0))
choices P zero f = ([], refl, λ e l. absurd (omega arith))
choices P (suc n) f =
    let first = f 0 (omega arith) in
    let rest = choices (λ e c. P (suc e) c) n (λ e l. f (suc e) (omega arith)) in
    (first.0 ∷ rest.0, ap suc rest.1, by_place first.0 first.1 rest.0 rest.2)
  where
    by_place : (c : ℕ) → P 0 c → (ns : List ℕ) → ((e : ℕ) → e < n → P (suc e) (get_or ns e 0)) → (e : ℕ) → e < suc n → P e (get_or (c ∷ ns) e 0)
    by_place c h ns g zero l = h
    by_place c h ns g (suc e) l = g e (omega arith)

-- the number of event e, counting from 1
abbrev Numbered : List (Option ℕ) → ℕ → ℕ → Type 0
Numbered holders e c = (1 ≤ c) × Holds holders e (c - 1)

module _ (rows : List ℕ) (seats : Matching) (size : ℕ) (low : (r : ℕ) → r < size → get_or rows r 0 < 2 ^ size) (same : seats.rows ≡ rows) where
  -- each held number is open to its holder
  sound : (e c : ℕ) → Holds seats.holders e c → Has (get_or rows e 0) c
  sound e c h = subst (λ (rs : List ℕ). Has (get_or rs e 0) c) same (seats.placed.sound e c h)

  -- each event has a number
  pub all_seated : Filled seats.holders size → Renumbered (open_in rows) size
  all_seated filled = listed (choices (Numbered seats.holders) size (λ e l. let t = (filled e).0 l in (t.0 + 1, (omega arith, subst (λ (c : ℕ). Holds seats.holders e c) (omega arith) t.1))))
    where
      listed : (ns : List ℕ) × (length ns ≡ size) × ((e : ℕ) → e < size → Numbered seats.holders e (get_or ns e 0)) → Renumbered (open_in rows) size
      listed t =
          let ns = t.0 in
          let at_place = λ (e : ℕ) (l : e < size). sound e (get_or ns e 0 - 1) (t.2 e l).1 in (
            ns,
            (
              t.1,
              All-from_get_or (Within size) ns 0 (λ i l. let m : i < size = omega (arith, t.1) in ((t.2 i m).0, omega (arith, has_below size (get_or rows i 0) (get_or ns i 0 - 1) (low i m) (at_place i m)))),
              apart_places ns (λ i j p q e. one_holder (get_or seats.holders (get_or ns i 0 - 1) None) i j (t.2 i (omega (arith, t.1))).1 (subst (λ (x : ℕ). Holds seats.holders j (x - 1)) (sym e) (t.2 j (omega (arith, t.1))).1)),
            ),
            λ r w. eq-eqb _ _ (at_place (r - 1) (omega arith)),
          )

  -- an event found no number
  module _ (w event marked : ℕ) (more : event < size) (wide : size ≤ w) (before : Matching) (full : before.untried ≡ 2 ^ w - 1) (filled : Filled before.holders event) (refused : Refused before seats event) (marks : Marks seats event w marked) where
    tried : Tried rows seats.holders (2 ^ w - 1) seats.untried
    tried c was gone =
        let t = refused.tried c (subst (λ (row : ℕ). Has row c) (sym full) was) gone in
        (t.0, subst (λ (hs : List (Option ℕ)). Holds hs t.0 c) (sym refused.same) t.1, subst (λ (rs : List ℕ). Shut (get_or rs t.0 0) seats.untried) (sym refused.rows ∙ same) t.2)

    shut : Shut (get_or rows event 0) seats.untried
    shut = subst (λ (rs : List ℕ). Shut (get_or rs event 0) seats.untried) (sym refused.rows ∙ same) refused.shut

    -- the holder of number c, counting from 1
    holder-of : Option ℕ → ℕ
    holder-of None = 0
    holder-of (Some e) = e + 1

    -- a tried number has a holder below the event, who is marked
    stuck : (c : ℕ) → Within size c → not (stands_in seats.untried c) ≡ true → (e : ℕ) × Holds seats.holders e (c - 1) × (e < event) × Has marked e × (holder-of (get_or seats.holders (c - 1) None) ≡ e + 1)
    unfolding holder-of
    stuck c in-range d =
        let gone = eqb-false (seats.untried / 2 ^ (c - 1) % 2) 1 (not-true (stands_in seats.untried c) d) in
        let t = tried (c - 1) (bit_at_ones w (c - 1) (omega arith)) gone in
        (t.0, t.1, (filled t.0).1 (c - 1, subst (λ (hs : List (Option ℕ)). Holds hs t.0 (c - 1)) refused.same t.1), marks.holder t.0 (c - 1) (omega arith) (t.1, gone), ap holder-of t.1)

    -- no number that is left is open to a marked event
    closed : (r : ℕ) → Within size r → Has marked (r - 1) → Shut (get_or rows (r - 1) 0) seats.untried
    closed r in-range m = elim (marks.only (r - 1) m) [
      | inl same ↦ subst (λ (e : ℕ). Shut (get_or rows e 0) seats.untried) (sym same) shut
      | inr by ↦
          (let below = has_below size (get_or rows (r - 1) 0) by.0 (low (r - 1) (omega arith)) (sound (r - 1) by.0 by.1.0) in
          let t = tried by.0 (bit_at_ones w by.0 (omega arith)) by.1.1 in
          subst (λ (e : ℕ). Shut (get_or rows e 0) seats.untried) (one_holder (get_or seats.holders by.0 None) t.0 (r - 1) t.1 by.1.0) t.2)
    ]

    -- it and the holders of the tried numbers are more than their open numbers
    pub event_blocked : Short (open_in rows) size (events_in size (stands_in marked))
    event_blocked = crowded (open_in rows) size (event + 1) (omega arith, omega arith) (stands_in marked) (λ c. not (stands_in seats.untried c)) (λ c. holder-of (get_or seats.holders (c - 1) None))
        (eq-eqb _ _ (subst (λ (k : ℕ). Has marked k) (omega arith) marks.root))
        (λ c in-range d.
        (let t = stuck c in-range d in (
          (omega (arith, t.4), omega (arith, t.4, t.2)),
          eq-eqb _ _ (subst (λ (k : ℕ). Has marked k) (omega (arith, t.4)) t.3),
          λ e. omega (arith, t.4, t.2),
        )))
        (λ c d cs ds cd dd e.
        (let t = stuck c cs cd in
        let u = stuck d ds dd in
        let same : t.0 ≡ u.0 = omega (arith, t.4, u.4) in
        let z = seats.placed.once t.0 (c - 1) (d - 1) t.1 (subst (λ (x : ℕ). Holds seats.holders x (d - 1)) (sym same) u.1) in
        omega arith))
        (λ r c rs cs i o. not_from_false _ (ne_eqb _ _ (closed r rs (eqb-true _ _ i) (c - 1) (eqb-true _ _ o))))
