use Rattle.std.proofs.Common.{◌≡◌, ℕ, List, ℤ, IfOk, string_bytes, Result, String, sym, subst}
use Rattle.std.specs.declared.alloc.AllocError.{AllocError}
use Rattle.std.specs.declared.alloc.Global.{Global}
use Rattle.costs.specs.Kind.{Kind as Cost}
use Rattle.costs.specs.Pair.{both, pair_kind}
use Rattle.costs.specs.Plain.{plain_kind, plain_of}
use Rattle.tables.specs.Pricing.{mismatch, difference, mixed}
use Rattle.tables.specs.declared.grade.Grade.{Grade}
use Rattle.job.specs.Answers.{content_of}
use Rattle.job.specs.Content.{Content}
use Rattle.job.specs.declared.accepted.Kind.{Kind}
use Rattle.answer.specs.Answers.{job_ledger, ReportOf, plain_parts, pair_parts, JobReport}
use Rattle.answer.proofs.job_report.job_report.Goals as goal

-- a report at a bound that is the same
at_bound : {C : Type 0} (k : Cost C) (parts : C → List ℤ) (price : ℕ → ℕ → Grade C) (c : Content) {bound own : C} → bound ≡ own → (r : Result (String Global) AllocError) → IfOk r (λ s. ReportOf k parts (job_ledger k price bound c) c.log (string_bytes s)) → IfOk r (λ s. ReportOf k parts (job_ledger k price own c) c.log (string_bytes s))
at_bound {C} k parts price c same r report = subst (λ (b : C). IfOk r (λ s. ReportOf k parts (job_ledger k price b c) c.log (string_bytes s))) same report

-- the report by the kind that the job has
by_kind : (c : Content) (own kind : Kind) → own ≡ kind → (r : Result (String Global) AllocError) → IfOk r (λ s. JobReport c kind (string_bytes s)) → IfOk r (λ s. JobReport c own (string_bytes s))
by_kind c own kind same r report = subst (λ (k : Kind). IfOk r (λ s. JobReport c k (string_bytes s))) (sym same) report

pub returns-in-Mismatch : goal.returns-in-Mismatch
returns-in-Mismatch c =
    let job = c.args.job.now in
    let content = content_of job c.args.log.now in
    by_kind content job.kind _ c.in-Mismatch.is c.report_with.result
    (at_bound plain_kind plain_parts mismatch content c.from.ensures c.report_with.result c.report_with.ensures)

pub returns-in-Difference : goal.returns-in-Difference
returns-in-Difference c =
    let job = c.args.job.now in
    let content = content_of job c.args.log.now in
    by_kind content job.kind _ c.in-Difference.is c.report_with-in-Difference.result
    (at_bound plain_kind plain_parts (difference c.in-Difference.delta) content c.from-in-Difference.ensures c.report_with-in-Difference.result c.report_with-in-Difference.ensures)

pub returns-in-Mixed : goal.returns-in-Mixed
returns-in-Mixed c =
    let job = c.args.job.now in
    let content = content_of job c.args.log.now in
    let bounds : both c.from-in-Mixed.result c.from-in-Mixed-2.result ≡ both (plain_of c.in-Mixed.first) (plain_of c.in-Mixed.second) = λ i. both (c.from-in-Mixed.ensures i) (c.from-in-Mixed-2.ensures i) in
    by_kind content job.kind _ c.in-Mixed.is c.report_with-in-Mixed.result
    (at_bound (pair_kind plain_kind plain_kind) pair_parts (mixed c.in-Mixed.delta) content bounds c.report_with-in-Mixed.result c.report_with-in-Mixed.ensures)
