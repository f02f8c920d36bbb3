use Rattle.std.proofs.Common.{◌≡◌, ◌-◌, length}
use Rattle.job.proofs.Walked.{Walking}
use Rattle.job.proofs.read_job.Given as goal

abbrev pub invariant-loop-place : goal.invariant-loop-place
invariant-loop-place l = record { same : l.tokens.text.now ≡ l.text; walking : Walking l.text l.initial.log l.tokens.place l.reader l.log }

abbrev pub decreases-loop-place : goal.decreases-loop-place
decreases-loop-place l = length l.text - l.tokens.place
