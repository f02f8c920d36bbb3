-- A whole list of calls on one watch: each answer is right by the ledger that the calls before it leave.
use Rattle.std.specs.Prelude.{◌≡◌, true, false, List, [], ◌∷◌, IfOk}
use Rattle.costs.specs.Kind.{Kind}
use Rattle.tables.specs.Table.{Table}
use Rattle.tables.specs.Refusals.{refusal_number}
use Rattle.tables.specs.declared.refusal.Refusal.{Refusal}
use Rattle.judge.specs.Judging.{Left, Exact}
use Rattle.judge.specs.Sheets.{sheet_lists, lengths}
use Rattle.judge.specs.declared.sheet.Sheet.{Sheet}
use Rattle.watch.specs.Calls.{step, ledger_answer, answer_told}
use Rattle.watch.specs.Ledger.{Ledger, standing, is_bound, opened}
use Rattle.watch.specs.declared.call.Answer.{Answer}
use Rattle.watch.specs.declared.call.Answer.TheVariants.{Change, Judgement}
use Rattle.watch.specs.declared.call.Call.{Call}
use Rattle.watch.specs.declared.call.Call.TheVariants.{Feed, Pin, Unpin, Bound, Judge}
use Rattle.watch.specs.declared.failure.Failure.{Failure}
use Rattle.watch.specs.declared.failure.Failure.TheVariants.{Refused, Memory}

-- an answer that hands no lists back
abbrev pub Bare : {C : Type 0} → Answer C → Type 0
Bare (Change r) = Unit {0}
Bare (Judgement r sheet) = ⊥

-- an answer to a judge hands its lists back, as long as they were. Accepted, it says 'within' exactly when some allowed
-- renumbering costs at most the bound and 'none' exactly when none is allowed, and the lists hold a least renumbering
-- with prices that prove it least, or marks of a set of events that proves that there is none; refused, they hold what
-- they held
abbrev pub Handed : {C : Type 0} → Kind C → Ledger C → Sheet C → Answer C → Type 0
Handed k l before (Change r) = ⊥
Handed k l before (Judgement r after) =
    IfOk r (λ v. Exact k (standing l) l.bound v)
    × Left k (standing l) (sheet_lists before) r (sheet_lists after)
    × (lengths (sheet_lists after) ≡ lengths (sheet_lists before))

-- what an answer hands back
abbrev pub Returned : {C : Type 0} → Kind C → Ledger C → Call C → Answer C → Type 0
Returned k l (Feed e) a = Bare a
Returned k l (Pin r c) a = Bare a
Returned k l (Unpin r) a = Bare a
Returned k l (Bound bound) a = Bare a
Returned k l (Judge before) a = Handed k l before a

-- the answer is what the ledger before the call says
pub record Right {C : Type 0} (k : Kind C) (l : Ledger C) (call : Call C) (a : Answer C) : Type 0 where
  pub says : answer_told a ≡ ledger_answer k l call
  pub hands : Returned k l call a

-- each call has one answer, right by the ledger that the calls before it leave
abbrev pub Run : {C : Type 0} → Kind C → Ledger C → List (Call C) → List (Answer C) → Type 0
Run k l [] [] = Unit {0}
Run k l [] (a ∷ answers) = ⊥
Run k l (call ∷ calls) [] = ⊥
Run k l (call ∷ calls) (a ∷ answers) = Right k l call a × Run k (step k l call) calls answers

-- a list of calls that was carried out on a watch over a table
pub record Conducted {C : Type 0} (k : Kind C) (t : Table C) (bound : C) (calls : List (Call C)) (answers : List (Answer C)) : Type 0 where
  pub opens : is_bound k bound ≡ true
  pub run : Run k (opened t bound) calls answers

-- why none was: the bound is refused with 9, or there was no memory
abbrev pub NotConducted : {C : Type 0} → Kind C → C → Failure Refusal → Type 0
NotConducted k bound (Refused e) = (is_bound k bound ≡ false) × (refusal_number e ≡ 9)
NotConducted k bound Memory = Unit {0}
