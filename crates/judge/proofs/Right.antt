-- The judge's lists prove its answer.
use Rattle.std.proofs.Common.{ap}
use Rattle.judge.specs.Least.{by_bound}
use Rattle.judge.specs.Right.{JudgeIsRight}
use Rattle.judge.proofs.Duality.{duality}
use Rattle.judge.proofs.Least.{cheapest_is_least, violator_leaves_none}

pub right : (C : Type 0) → JudgeIsRight C
right C k laws g s bound size bounded = (
  (λ ns u v c. let d = duality C k laws g s u v ns size bounded c.2 c.3 c.4 c.0 c.1 c.5 in (d.0, ap (by_bound k bound) (cheapest_is_least C k laws g s ns d.1))),
  (λ marks few. ap (by_bound k bound) (violator_leaves_none C k laws g s marks few)),
)
