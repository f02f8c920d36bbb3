-- What one change in the table of holders keeps, and what a search comes to.
use Rattle.std.proofs.Common.{◌≡◌, ℕ, ◌/◌, ◌%◌, ◌^◌, ◌<◌, false, ◌⊎◌, List, length, get_or, set, Some, None, Option, sym, refl, ap, ◌∙◌, subst, inl, inr, arith}
use Rattle.std.proofs.lemmas.List.{get_or_default, get_or-set_same, get_or-set_other, set-set, set-get_or, length-set}
use Rattle.std.proofs.lemmas.Bool.{cases_eq, false≢true}
use Rattle.std.specs.Option.{is_some}
use Rattle.tables.specs.Limits.{max_size}
use Rattle.judge.specs.BitRows.{Has, Shut, Sub}
use Rattle.judge.specs.declared.matching.Matching.{Matching}
use Rattle.judge.specs.Matching.{Holds, Seated, Placed, Stuck, Tried}
use Rattle.judge.specs.Moves.{Joined, Refused, Freed, Kept}

-- a free number has no holder
pub none_holds : (o : Option ℕ) (e : ℕ) → o ≡ None → o ≡ Some e → ⊥
none_holds o e p q = let z : ◌≡◌ {A = ℕ} 0 1 = cc in omega arith

-- a number has one holder
pub one_holder : (o : Option ℕ) (d e : ℕ) → o ≡ Some d → o ≡ Some e → d ≡ e
one_holder o d e p q = cc

-- who holds what after a change at one number
from_set : (hs : List (Option ℕ)) (n : ℕ) (o : Option ℕ) → n < length hs → (e c : ℕ) → Holds (set hs n o) e c → ((c ≡ n) × (o ≡ Some e)) ⊎ ((c ≡ n → ⊥) × Holds hs e c)
from_set hs n o l e c h = elim (cases_eq c n) [
  | inl same ↦ inl (same, sym (get_or-set_same hs n o None l) ∙ ap (λ (k : ℕ). get_or (set hs n o) k None) (sym same) ∙ h)
  | inr other ↦ inr (other, sym (get_or-set_other hs n c o None other) ∙ h)
]

module _ (rows : List ℕ) (hs : List (Option ℕ)) (n : ℕ) (l : n < length hs) where
  -- who still holds a number after one is left
  from_left : (e c : ℕ) → Holds (set hs n None) e c → (c ≡ n → ⊥) × Holds hs e c
  from_left e c h = elim (from_set hs n None l e c h) [ inl m ↦ absurd (none_holds None e refl m.1) | inr m ↦ m ]

  -- an event with no number takes one that is open to it
  placed_taken : (e : ℕ) → Placed rows hs → (Seated hs e → ⊥) → Has (get_or rows e 0) n → Placed rows (set hs n (Some e))
  placed_taken e p standing open-here = record {
    long = length-set hs n (Some e) ∙ p.long;
    sound = λ d c h. elim (from_set hs n (Some e) l d c h) [
      | inl m ↦ subst (λ (k : ℕ). Has (get_or rows k 0) c) (one_holder (Some e) e d refl m.1) (subst (λ (k : ℕ). Has (get_or rows e 0) k) (sym m.0) open-here)
      | inr m ↦ p.sound d c m.1
    ];
    once = λ d c k h g. elim (from_set hs n (Some e) l d c h) [
      | inl m ↦ elim (from_set hs n (Some e) l d k g) [
        | inl w ↦ m.0 ∙ sym w.0
        | inr w ↦ absurd (standing (k, subst (λ (x : ℕ). Holds hs x k) (sym (one_holder (Some e) e d refl m.1)) w.1))
      ]
      | inr m ↦ elim (from_set hs n (Some e) l d k g) [
        | inl w ↦ absurd (standing (c, subst (λ (x : ℕ). Holds hs x c) (sym (one_holder (Some e) e d refl w.1)) m.1))
        | inr w ↦ p.once d c k m.1 w.1
      ]
    ];
  }

-- the holder that is read at the index of a number
pub read_holder : (hs : List (Option ℕ)) (i n : ℕ) (d o : Option ℕ) → i ≡ n → n < length hs → get_or hs i d ≡ o → get_or hs n None ≡ o
read_holder hs i n d o same l e = get_or_default hs n None d l ∙ ap (λ (k : ℕ). get_or hs k d) (sym same) ∙ e

-- no holder is read
pub no_holder : (o : Option ℕ) → is_some o ≡ false → o ≡ None
no_holder None e = refl
no_holder (Some x) e = absurd (false≢true (sym e))

-- the seats with another holder of one number
pub record Put (before after : Matching) (n : ℕ) (o : Option ℕ) : Type 0 where
  pub rows : after.rows ≡ before.rows
  pub holders : after.holders ≡ set before.holders n o
  pub untried : after.untried ≡ before.untried

-- written at the index of the number
pub put_at : (before after : Matching) (i n : ℕ) (o : Option ℕ) → i ≡ n → after.rows ≡ before.rows → after.holders ≡ set before.holders i o → after.untried ≡ before.untried → Put before after n o
put_at before after i n o same rs hs us = record { rows = rs; holders = hs ∙ ap (λ (k : ℕ). set before.holders k o) same; untried = us }

-- a free number stays free
pub freed_already : (seats : Matching) (n : ℕ) → get_or seats.holders n None ≡ None → Freed seats seats n
freed_already seats n free = record { rows = refl; free = free; stay = λ d s. s; only = λ d s. s; same = λ c gone other. refl }

-- a number that came free is taken
module _ (start before after : Matching) (n e : ℕ) (small : n < max_size) (f : Freed before after n) (rows_alike : before.rows ≡ start.rows) (alike : before.holders ≡ start.holders) (standing : Seated start.holders e → ⊥) where
  in_list : n < length after.holders
  in_list = omega (arith, after.placed.long, small)

  pub placed_freed : Has (get_or start.rows e 0) n → Placed after.rows (set after.holders n (Some e))
  placed_freed open-here =
      placed_taken after.rows after.holders n in_list e after.placed (λ s. standing (subst (λ (hs : List (Option ℕ)). Seated hs e) alike (f.only e s)))
      (subst (λ (rs : List ℕ). Has (get_or rs e 0) n) (sym (f.rows ∙ rows_alike)) open-here)

  pub joined_freed : (final : Matching) → Put after final n (Some e) → Sub before.untried start.untried → Has start.untried n → Joined start final e
  joined_freed final put sub has = record {
    rows = put.rows ∙ f.rows ∙ rows_alike;
    here = (n, ap (λ (hs : List (Option ℕ)). get_or hs n None) put.holders ∙ get_or-set_same after.holders n (Some e) None in_list);
    stay = λ d s.
        (let t = f.stay d (subst (λ (hs : List (Option ℕ)). Seated hs d) (sym alike) s) in
        let other : t.0 ≡ n → ⊥ = λ same. none_holds (get_or after.holders n None) d f.free (subst (λ (k : ℕ). Holds after.holders d k) same t.1) in
        (t.0, ap (λ (hs : List (Option ℕ)). get_or hs t.0 None) put.holders ∙ get_or-set_other after.holders n t.0 (Some e) None other ∙ t.1));
    only = λ d s. elim (from_set after.holders n (Some e) in_list d s.0 (subst (λ (hs : List (Option ℕ)). Holds hs d s.0) put.holders s.1)) [
      | inl m ↦ inr (sym (one_holder (Some e) e d refl m.1))
      | inr m ↦ inl (subst (λ (hs : List (Option ℕ)). Seated hs d) alike (f.only d (s.0, m.1)))
    ];
    same = λ c gone.
        (let other : c ≡ n → ⊥ = λ same. gone (subst (λ (k : ℕ). Has start.untried k) (sym same) has) in
        ap (λ (hs : List (Option ℕ)). get_or hs c None) put.holders
        ∙ get_or-set_other after.holders n c (Some e) None other
        ∙ f.same c (λ h. gone (sub c h)) other
        ∙ ap (λ (hs : List (Option ℕ)). get_or hs c None) alike);
  }

-- the event leaves the number that it holds
pub record Leaving (before left : Matching) (n e : ℕ) : Type 0 where
  pub inside : n < length before.holders
  pub held : Holds before.holders e n
  pub put : Put before left n None

-- as it does at the index where it was read
pub leaving : (before left : Matching) (i j n e : ℕ) (d : Option ℕ) → i ≡ n → j ≡ n → n < max_size → get_or before.holders i d ≡ Some e
    → left.rows ≡ before.rows → left.holders ≡ set before.holders j None → left.untried ≡ before.untried → Leaving before left n e
leaving before left i j n e d read write small held rs hs us =
    let l : n < length before.holders = omega (arith, before.placed.long, small) in
    record { inside = l; held = read_holder before.holders i n d (Some e) read l held; put = put_at before left j n None write rs hs us }

-- it holds none then
pub left_standing : (seats : Matching) (i n e : ℕ) (d : Option ℕ) → i ≡ n → n < max_size → get_or seats.holders i d ≡ Some e → Seated (set seats.holders n None) e → ⊥
left_standing seats i n e d read small held s =
    let l : n < length seats.holders = omega (arith, seats.placed.long, small) in
    let t = from_left seats.rows seats.holders n l e s.0 s.1 in
    t.0 (seats.placed.once e s.0 n t.1 (read_holder seats.holders i n d (Some e) read l held))

-- and looks for another
module _ (before left : Matching) (n e : ℕ) (w : Leaving before left n e) where
  -- it found one
  pub freed_joined : (after : Matching) → (Has before.untried n → ⊥) → Joined left after e → Freed before after n
  freed_joined after gone j = record {
    rows = j.rows ∙ w.put.rows;
    free = j.same n (λ h. gone (subst (λ (r : ℕ). Has r n) w.put.untried h)) ∙ ap (λ (hs : List (Option ℕ)). get_or hs n None) w.put.holders ∙ get_or-set_same before.holders n None None w.inside;
    stay = λ d s. elim (cases_eq s.0 n) [
      | inl same ↦ subst (λ (x : ℕ). Seated after.holders x) (one_holder (get_or before.holders n None) e d w.held (subst (λ (k : ℕ). Holds before.holders d k) same s.1)) j.here
      | inr other ↦ j.stay d (subst (λ (hs : List (Option ℕ)). Seated hs d) (sym w.put.holders) (s.0, get_or-set_other before.holders n s.0 None None other ∙ s.1))
    ];
    only = λ d s. elim (j.only d s) [
      | inl t ↦ (let u = subst (λ (hs : List (Option ℕ)). Seated hs d) w.put.holders t in (u.0, (from_left before.rows before.holders n w.inside d u.0 u.1).1))
      | inr same ↦ (n, subst (λ (x : ℕ). Holds before.holders x n) (sym same) w.held)
    ];
    same = λ c still other.
        j.same c (λ h. still (subst (λ (r : ℕ). Has r c) w.put.untried h))
        ∙ ap (λ (hs : List (Option ℕ)). get_or hs c None) w.put.holders
        ∙ get_or-set_other before.holders n c None None other;
  }

  -- it found none, and takes its own again
  module _ (after : Matching) (s : Refused left after e) where
    restored : set after.holders n (Some e) ≡ before.holders
    restored =
        ap (λ (x : List (Option ℕ)). set x n (Some e)) (s.same ∙ w.put.holders)
        ∙ set-set before.holders n None (Some e)
        ∙ ap (λ (o : Option ℕ). set before.holders n o) (sym w.held)
        ∙ set-get_or before.holders n None

    pub placed_again : Placed after.rows (set after.holders n (Some e))
    placed_again = rw (restored, s.rows, w.put.rows) before.placed

    pub kept_refused : (final : Matching) → Put after final n (Some e) → Kept before final n
    kept_refused final back =
        let tried : Tried before.rows before.holders before.untried after.untried = λ c was gone.
        (let t = s.tried c (subst (λ (r : ℕ). Has r c) (sym w.put.untried) was) gone in
        (t.0, (from_left before.rows before.holders n w.inside t.0 c (subst (λ (hs : List (Option ℕ)). Holds hs t.0 c) w.put.holders t.1)).1, subst (λ (rs : List ℕ). Shut (get_or rs t.0 0) after.untried) w.put.rows t.2)) in
        record {
          rows = back.rows ∙ s.rows ∙ w.put.rows;
          same = back.holders ∙ restored;
          tried = subst (λ (rest : ℕ). Tried before.rows before.holders before.untried rest) (sym back.untried) tried;
          stuck = subst (λ (rest : ℕ). Stuck before.rows before.holders rest n) (sym back.untried) (e, w.held, subst (λ (rs : List ℕ). Shut (get_or rs e 0) after.untried) w.put.rows s.shut);
        }

-- one number more is tried
pub tried_more : (rows : List ℕ) (hs : List (Option ℕ)) (left before next rest n : ℕ)
    → ((c : ℕ) → Has before c → (c ≡ n → ⊥) → Has next c) → Sub rest before
    → Tried rows hs left before → Stuck rows hs rest n → Tried rows hs next rest → Tried rows hs left rest
tried_more rows hs left before next rest n others sub old here more c was gone =
    elim (cases_eq (before / 2 ^ c % 2) 1) [
      | inl has ↦ elim (cases_eq c n) [ inl same ↦ subst (λ (k : ℕ). Stuck rows hs rest k) (sym same) here | inr other ↦ more c (others c has other) gone ]
      | inr not_there ↦ (let t = old c was not_there in (t.0, t.1, λ k h g. t.2 k h (sub k g)))
    ]
