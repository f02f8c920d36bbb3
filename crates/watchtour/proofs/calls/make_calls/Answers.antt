use Rattle.std.proofs.Common.{take, vec_items, take_all}
use Rattle.std.proofs.lemmas.List.{take_more}
use Rattle.watchtour.specs.declared.calls.Step.TheVariants.{Feed}
use Rattle.watchtour.proofs.Plans.{stand_push}
use Rattle.watchtour.proofs.calls.make_calls.Goals as goal

pub loop-step-preserved : goal.loop-step-preserved
loop-step-preserved c =
    let steps = c.args.steps.now in
    let i = c.loop-step.step-index in
    rw (c.in_ok-push.ensures.items, take_more steps i (Feed 0) c.loop-step-test.true)
    (stand_push (take i steps) (vec_items c.loop-step.calls) _ _ c.loop-step.invariant c.in_ok-call.ensures)

pub returns : goal.returns
returns c =
    rw (← take_all c.loop-step.step-index c.args.steps.now c.loop-step-test.false) c.loop-step.invariant
