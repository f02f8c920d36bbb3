-- What the matching answers, in terms of the grades.
use Rattle.std.proofs.Common.{◌≡◌, ℕ, ◌+◌, ◌-◌, ◌<◌, Bool, true, ◌||◌, List, [], ◌∷◌, length, get_or, sym, refl, ap, ◌∙◌, subst, inl, inr, arith}
use Rattle.std.proofs.ByRecursion.{All-get_or}
use Rattle.costs.specs.Lists.{In}
use Rattle.tables.specs.Table.{Within}
use Rattle.tables.specs.declared.grade.Grade.{Grade}
use Rattle.judge.specs.Renumbering.{Renumbering, up_to}
use Rattle.judge.specs.Allowed.{opens, allowed}
use Rattle.judge.specs.Marks.{is_marked, events_in, open_to, Short, Violator}
use Rattle.judge.specs.BitRows.{stands_in, open_in, Agrees}
use Rattle.judge.specs.Matching.{Renumbered}
use Rattle.judge.specs.Marking.{Written}
use Rattle.judge.proofs.Crowds.{from_kept, from_up_to}
use Rattle.judge.proofs.Marking.{kept_same, violator_of, written_is}
use Rattle.judge.proofs.Settled.{open_all}

-- tests that agree on the events agree on whether a number is open to one of them
open_to_same : (open_at also : ℕ → ℕ → Bool) (c : ℕ) (rs : List ℕ) → ((r : ℕ) → In r rs → open_at r c ≡ also r c) → open_to open_at rs c ≡ open_to also rs c
open_to_same open_at also c [] f = refl
open_to_same open_at also c (r ∷ rs) f =
    ap (λ (b : Bool). b || open_to open_at rs c) (f r (inl refl)) ∙ ap (λ (b : Bool). also r c || b) (open_to_same open_at also c rs (λ q m. f q (inr m)))

-- a set of events has too few open numbers by any test that agrees
pub short_same : (open_at also : ℕ → ℕ → Bool) (s : ℕ) (inside : ℕ → Bool) → ((r c : ℕ) → Within s r → Within s c → open_at r c ≡ also r c) → Short open_at s (events_in s inside) → Short also s (events_in s inside)
short_same open_at also s inside same =
    subst (λ (ns : List ℕ). length ns < length (events_in s inside))
    (kept_same (open_to open_at (events_in s inside)) (open_to also (events_in s inside)) 1 s
    (λ c l h. open_to_same open_at also c (events_in s inside) (λ r m. same r c (from_up_to s r (from_kept inside r (up_to s) m).0) (l, omega arith))))

module _ {C : Type 0} (rows : List ℕ) (g : ℕ → ℕ → Grade C) (s : ℕ) (agrees : Agrees rows g s) where
  -- a renumbering along the rows is allowed
  pub renumbered_allowed : Renumbered (open_in rows) s → (ns : List ℕ) × Renumbering s ns × (allowed g ns ≡ true)
  renumbered_allowed t = (
    t.0,
    t.1,
    open_all g t.0 1 (λ i l.
        (let first : Within s (1 + i) = (omega arith, omega (arith, t.1.0)) in
        let back : 1 + i - 1 ≡ i = omega arith in
        sym (agrees (1 + i) (get_or t.0 i 0) first (All-get_or (Within s) t.0 i 0 l t.1.1))
        ∙ subst (λ (j : ℕ). open_in rows (1 + i) (get_or t.0 j 0) ≡ true) back (t.2 (1 + i) first))),
  )

  -- marks that tell the events of a set with too few open numbers in the rows
  pub blocked_violator : (set : ℕ) (marks : List ℕ) → Short (open_in rows) s (events_in s (stands_in set)) → ((r : ℕ) → Within s r → is_marked marks r ≡ stands_in set r) → Violator g s marks
  blocked_violator set marks short same = violator_of g s (stands_in set) marks same (short_same (open_in rows) (opens g) s (stands_in set) agrees short)

  -- as the marks that are written of the set do
  pub written_violator : (set : ℕ) (before after : List ℕ) → Short (open_in rows) s (events_in s (stands_in set)) → Written set s before after → Violator g s after
  written_violator set before after short w = blocked_violator set after short (written_is set s before after w)
