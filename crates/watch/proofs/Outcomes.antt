-- What a judge of lists with room leads to.
use Rattle.std.proofs.Common.{◌≡◌, ℕ, zero, suc, Bool, true, false, cond, leb, List, [], ◌∷◌, length, Some, None, Ok, Err, Result, sym, refl, ap, ◌∙◌, arith}
use Rattle.std.specs.Result.{result_ok}
use Rattle.std.proofs.lemmas.Bool.Decides.{nat_tests}
use Rattle.costs.specs.Kind.{Kind}
use Rattle.tables.specs.Refusals.{told}
use Rattle.tables.specs.Table.{pair_at}
use Rattle.tables.specs.declared.refusal.Refusal.{Refusal}
use Rattle.judge.specs.Judging.{Lists, Room, has_room, judge_answer, verdict_told}
use Rattle.judge.specs.Least.{judged}
use Rattle.judge.specs.declared.verdict.Verdict.{Verdict}
use Rattle.judge.specs.declared.verdict.Verdict.TheVariants.{Within as Inside, Over, None as Never}
use Rattle.watch.specs.Ledger.{Ledger, standing}
use Rattle.watch.specs.Walking.{outcome}

-- nothing is made in two ways: `never cc`, from an equation that says so
pub never : {X : Type 0} → ◌≡◌ {A = ℕ} 0 1 → X
never z = absurd (omega arith)

-- a verdict is known by its number and values
read : {C : Type 0} → ℕ × List C → Verdict C
read (n, []) = Never
read (zero, c ∷ cs) = Inside c
read (suc n, c ∷ cs) = Over c

read_told : {C : Type 0} (v : Verdict C) → read (verdict_told v) ≡ v
unfolding read
read_told (Inside c) = refl
read_told (Over c) = refl
read_told Never = refl

told_same : {C : Type 0} (v w : Verdict C) → verdict_told v ≡ verdict_told w → v ≡ w
told_same v w e = sym (read_told v) ∙ ap read e ∙ read_told w

pub roomy : {C : Type 0} (s : ℕ) (l : Lists C) → Room s l → has_room s (length l.numbers) (length l.event_prices) (length l.number_prices) (length l.marks) (length l.work) ≡ true
roomy s l room =
    let numbers = room.numbers in
    let event_prices = room.event_prices in
    let number_prices = room.number_prices in
    let marks = room.marks in
    let work = room.work in
    grind (arith, nat_tests)

-- a verdict exactly where the window is full
by_full : {C : Type 0} (w : Verdict C) (full : Bool) (r : Result (Verdict C) Refusal) → told verdict_told r ≡ cond full (Ok (verdict_told w)) (Err 14) → result_ok r ≡ cond full (Some w) None
by_full w true (Ok v) e = ap Some (told_same v w cc)
by_full w true (Err x) e = never cc
by_full w false (Ok v) e = never cc
by_full w false (Err x) e = refl

pub ok_outcome : {C : Type 0} (k : Kind C) (l : Ledger C) (before : Lists C) → Room l.table.size before → (r : Result (Verdict C) Refusal) → told verdict_told r ≡ judge_answer k (standing l) l.bound before → result_ok r ≡ outcome k l
ok_outcome k l before room r e =
    let full = leb l.table.places (length l.table.window) in
    let v = judged k (pair_at (standing l)) l.table.size l.bound in
    by_full v full r (e ∙ ap (λ (b : Bool). cond b (cond full (Ok (verdict_told v)) (Err 14)) (Err 15)) (roomy l.table.size before room))
