use Rattle.std.proofs.Common.{◌≡◌, ℕ, List, [], length, ℤ, None, string_bytes, refl, ap, ◌∙◌, subst, arith}
use Rattle.std.proofs.lemmas.Result.{IfOk-weaker}
use Rattle.costs.specs.Kind.{Kind}
use Rattle.watch.specs.Ledger.{Ledger}
use Rattle.watch.specs.Walking.{first_outside}
use Rattle.watch.specs.declared.walk.NextRefusal.{NextRefusal}
use Rattle.report.specs.Reports.{NotReported}
use Rattle.report.specs.Windows.{AllWindows}
use Rattle.report.specs.declared.Report.{Report}
use Rattle.watch.specs.declared.failure.Failure.{Failure}
use Rattle.watch.specs.declared.failure.Failure.TheVariants.{Refused}
use Rattle.job.specs.Answers.{content_of}
use Rattle.answer.specs.Answers.{job_ledger, ReportOf}
use Rattle.answer.specs.Lines.{report_bytes}
use Rattle.answer.proofs.Facts.{log_fits}
use Rattle.answer.proofs.Opening.{table_not_refused, ledger_stands}
use Rattle.answer.proofs.job_report.report_with.Goals as goal

pub unreachable-requires : goal.unreachable-requires
unreachable-requires g c =
    let content = content_of c.args.job.now c.args.log.now in
    table_not_refused g.P.Value.Cost.kind (g.P.Pricing.prices c.args.pricing) c.args.bound content c.requires.valid _ c.requires.usable c.trace.result.now c.trace.ensures.value _ c.in_default.ensures

-- a log with no event outside is not refused
not_refused : {C : Type 0} (l own : Ledger C) (log events : List ℕ) (e : Failure NextRefusal) (refusal : NextRefusal) → NotReported l log e → e ≡ Refused refusal → l ≡ own → log ≡ events → first_outside own.table.size 1 events ≡ None → ⊥
not_refused l own log events e refusal away is same logged inside =
    let told = subst (NotReported l log) is away in
    let outside = told.1 in
    let z : ◌≡◌ {A = ℕ} 0 1 = cc in omega arith

pub unreachable-requires-in-Err-Refused : goal.unreachable-requires-in-Err-Refused
unreachable-requires-in-Err-Refused g c =
    let content = content_of c.args.job.now c.args.log.now in
    let price = g.P.Pricing.prices c.args.pricing in
    let whole = ledger_stands g.P.Value.Cost.kind price c.args.bound content c.requires.valid _ c.requires.usable c.trace.result.now c.trace.ensures.value c.requires.bound _ _ _ c.pins.result.now c.in-Ok.ensures c.in-Ok-open.ensures c.pins.ensures.value c.lay_pins.ensures in
    not_refused _ _ _ _ _ c.in-Err-Refused._refusal c.in-Err-Refused.ensures.reported c.in-Err-Refused.field-0-is whole c.events_of.ensures (log_fits content c.requires.valid)

-- the lines of a report of that log on that ledger
report_stands : {C : Type 0} (k : Kind C) (parts : C → List ℤ) (l own : Ledger C) (log events : List ℕ) (places : ℕ) (found : Report C) → (l.table.window ≡ [] → AllWindows k l log found) → l ≡ own → log ≡ events → own.table.window ≡ [] → places ≡ own.table.places → (bytes : List ℕ) → bytes ≡ report_bytes parts places found → ReportOf k parts own events bytes
report_stands {C} k parts l own log events places found told same logged fresh at bytes written =
    let all = subst (λ (m : Ledger C). m.table.window ≡ [] → AllWindows k m log found) same told fresh in
    (found, subst (λ es. AllWindows k own es found) logged all, written ∙ ap (λ n. report_bytes parts n found) at)

pub returns-in-Ok-report_log : goal.returns-in-Ok-report_log
returns-in-Ok-report_log g c =
    let k = g.P.Value.Cost.kind in
    let parts = g.P.Value.Printed.parts in
    let content = content_of c.args.job.now c.args.log.now in
    let price = g.P.Pricing.prices c.args.pricing in
    let own = job_ledger k price c.args.bound content in
    let whole = ledger_stands k price c.args.bound content c.requires.valid _ c.requires.usable c.trace.result.now c.trace.ensures.value c.requires.bound _ _ _ c.pins.result.now c.in-Ok.ensures c.in-Ok-open.ensures c.pins.ensures.value c.lay_pins.ensures in
    IfOk-weaker c.report_text.result _ (λ s. ReportOf k parts own content.log (string_bytes s))
    (λ s. report_stands k parts _ own _ content.log (length c.trace-in-Ok-report_log.result.now) c.in-Ok-report_log.found c.in-Ok-report_log.ensures.windows whole c.events_of.ensures refl (ap length c.trace-in-Ok-report_log.ensures.value) (string_bytes s))
    c.report_text.ensures
