use Rattle.std.proofs.Common.{refl}
use Rattle.watch.proofs.Worked.{worked_cases}
use Rattle.watch.proofs.cases.worked_cases.Goals as goal

pub returns : goal.returns
returns c = record { count = refl; hold = worked_cases }
