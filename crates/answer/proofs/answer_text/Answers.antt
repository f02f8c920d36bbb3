use Rattle.std.proofs.Common.{sym}
use Rattle.answer.proofs.answer_text.Goals as goal

pub job_report-requires : goal.job_report-requires
job_report-requires c = (c.in-Ok.ensures.laws.only_jobs c.args.text.now _ (sym c.in-Ok.ensures.answer)).2
