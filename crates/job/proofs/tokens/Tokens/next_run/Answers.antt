use Rattle.std.proofs.Common.{arith, rules}
use Rattle.job.proofs.Scans.{run_none, run_some}
use Rattle.job.proofs.tokens.Tokens.next_run.Goals as goal

pub returns-then-is_empty-clause-none : goal.returns-then-is_empty-clause-none
returns-then-is_empty-clause-none c =
    let t = c.args.self.now in
    run_none t.text.now t.place c.blanks.result c.blanks.ensures.value c.run_len.result c.run_len.ensures.value (search rules) (omega arith)

pub returns-else-is_empty-clause-some : goal.returns-else-is_empty-clause-some
returns-else-is_empty-clause-some c =
    let t = c.args.self.now in
    run_some t.text.now t.place c.blanks.result c.blanks.ensures.value c.run_len.result c.run_len.ensures.value (search rules)
