use Rattle.std.proofs.Common.{sym, subst}
use Rattle.watchtour.specs.Steps.{StandsFor}
use Rattle.watchtour.specs.declared.calls.Step.{Step}
use Rattle.watch.specs.declared.call.Call.TheVariants.{Judge as Judges}
use Rattle.watchtour.proofs.calls.make_call.Goals as goal

pub returns-in_ok-new-in-Judge : goal.returns-in_ok-new-in-Judge
returns-in_ok-new-in-Judge c =
    subst (λ (step : Step). StandsFor step (Judges c.in_ok-new-in-Judge.field-0)) (sym c.in-Judge.is) c.in_ok-new-in-Judge.ensures
