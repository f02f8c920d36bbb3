use Rattle.std.proofs.Common.{arith}
use borrow.Author.Differences.{ints}
use Rattle.costs.specs.PlainLaws.{plain_from_some}
use Rattle.costs.proofs.plain.Plain.new.Goals as goal

pub returns-then-unsigned_abs-le-SPAN_LIMIT : goal.returns-then-unsigned_abs-le-SPAN_LIMIT
returns-then-unsigned_abs-le-SPAN_LIMIT c = plain_from_some c.args.value _ (omega (arith, ints))
