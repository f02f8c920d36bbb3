-- The theorems that a judge rests on, for all kinds, all grades and all sizes up to 64.
use Rattle.judge.specs.Theorems.{Duality, Violators, Enumerated, CheapestIsLeast, ViolatorLeavesNone}
use Rattle.judge.specs.Right.{JudgeIsRight, Settled}

pub record Theory (C : Type 0) : Type 0 where
  -- prices that stay under every open pair and meet the pairs of a renumbering prove it least
  pub prices_prove : Duality C
  -- marked events with too few open numbers leave no renumbering
  pub marks_prove : Violators C
  -- the tried renumberings are all renumberings and nothing else
  pub all_are_tried : Enumerated
  pub tried_find_least : CheapestIsLeast C
  pub tried_find_none : ViolatorLeavesNone C
  -- so prices and marks tell the verdict that trying gives
  pub lists_tell_verdict : JudgeIsRight C
  -- and one of the two always exists
  pub one_always_is : Settled C
