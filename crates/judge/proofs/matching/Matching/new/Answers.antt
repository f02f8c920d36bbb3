use Rattle.std.proofs.Common.{refl}
use Rattle.judge.proofs.Matched.{placed_none}
use Rattle.judge.proofs.matching.Matching.new.Goals as goal

pub invariant_of-result : goal.invariant_of-result
invariant_of-result c = record { placed = placed_none _ _ refl }
