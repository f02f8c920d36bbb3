-- The answer to a text: the lines of its report, or the line of its first fault.
use Rattle.std.specs.Prelude.{◌≡◌, ℕ, List, [], ◌∷◌, ℤ, Ok, Err, string_bytes, Result}
use Rattle.costs.specs.Kind.{Kind}
use Rattle.costs.specs.Pair.{both, pair_kind}
use Rattle.costs.specs.Plain.{plain_kind, plain_of}
use Rattle.costs.specs.declared.pair.Pair.{Pair}
use Rattle.costs.specs.declared.plain.Plain.{Plain}
use Rattle.tables.specs.Pricing.{mismatch, difference, mixed}
use Rattle.tables.specs.Summing.{summing}
use Rattle.tables.specs.declared.grade.Grade.{Grade}
use Rattle.watch.specs.Ledger.{Ledger}
use Rattle.report.specs.Windows.{AllWindows}
use Rattle.report.specs.declared.Report.{Report}
use Rattle.job.specs.Content.{Content, pins_after, laid}
use Rattle.job.specs.Faults.{Finding}
use Rattle.job.specs.declared.accepted.Pin.{Pin}
use Rattle.job.specs.declared.accepted.Kind.{Kind as JobKind}
use Rattle.job.specs.declared.accepted.Kind.TheVariants.{Mismatch, Difference, Mixed}
use Rattle.answer.specs.Lines.{fault_bytes, report_bytes}
use Rattle.answer.specs.declared.Answer.{Answer}
use Rattle.answer.specs.declared.Answer.TheVariants.{Report as Reported, Fault as Faulty}

-- a ledger after pin calls, one after another
abbrev pub with_pins : {C : Type 0} → Ledger C → List Pin → Ledger C
with_pins l ps = record { table = l.table; pins = pins_after l.table.size l.pins ps; bound = l.bound }

-- the ledger of a job: its table with an empty window, its pins, and its bound
abbrev pub job_ledger : {C : Type 0} → Kind C → (ℕ → ℕ → Grade C) → C → Content → Ledger C
job_ledger k price bound c = record {
  table = summing k price c.size c.trace [];
  pins = laid c.size c.pins;
  bound = bound;
}

-- the lines are those of a report of all windows: a hit for each full window that costs and pins allow a renumbering
-- within the bound, in rising order, with a least renumbering of that cost, and the counts of all windows
abbrev pub ReportOf : {C : Type 0} → Kind C → (C → List ℤ) → Ledger C → List ℕ → List ℕ → Type 0
ReportOf {C} k parts l log bytes = (r : Report C) × AllWindows k l log r × (bytes ≡ report_bytes parts l.table.places r)

-- a plain cost is written as its value, a pair of them as two numbers
abbrev pub plain_parts : Plain → List ℤ
plain_parts a = a.value ∷ []

abbrev pub pair_parts : Pair Plain Plain → List ℤ
pair_parts p = p.first.value ∷ p.second.value ∷ []

-- the same by the kind that the job names
abbrev pub JobReport : Content → JobKind → List ℕ → Type 0
JobReport c (Mismatch bound) bytes = ReportOf plain_kind plain_parts (job_ledger plain_kind mismatch (plain_of bound) c) c.log bytes
JobReport c (Difference delta bound) bytes = ReportOf plain_kind plain_parts (job_ledger plain_kind (difference delta) (plain_of bound) c) c.log bytes
JobReport c (Mixed delta first second) bytes =
    ReportOf (pair_kind plain_kind plain_kind) pair_parts (job_ledger (pair_kind plain_kind plain_kind) (mixed delta) (both (plain_of first) (plain_of second)) c) c.log bytes

-- a job has its report, and a faulty text the line of its first fault
abbrev pub AnswerTo : Result Content Finding → Answer → Type 0
AnswerTo (Ok c) (Reported s) = JobReport c c.kind (string_bytes s)
AnswerTo (Ok c) (Faulty s) = ⊥
AnswerTo (Err f) (Reported s) = ⊥
AnswerTo (Err f) (Faulty s) = string_bytes s ≡ fault_bytes f
