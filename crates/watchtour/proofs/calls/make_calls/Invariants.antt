use Rattle.std.proofs.Common.{take, vec_items}
use Rattle.watchtour.specs.Steps.{AllStand}
use Rattle.watchtour.proofs.calls.make_calls.Given as goal

-- the calls so far are those of the steps so far
abbrev pub invariant-loop-step : goal.invariant-loop-step
invariant-loop-step l = AllStand (take l.step-index l.steps) (vec_items l.calls)
