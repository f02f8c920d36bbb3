-- A plan that is one step longer.
use Rattle.std.proofs.Common.{List, [], ◌∷◌, ◌++◌}
use Rattle.costs.specs.declared.plain.Plain.{Plain}
use Rattle.watch.specs.declared.call.Call.{Call}
use Rattle.watchtour.specs.Steps.{StandsFor, AllStand}
use Rattle.watchtour.specs.declared.calls.Step.{Step}

pub stand_push : (ss : List Step) (cs : List (Call Plain)) (s : Step) (c : Call Plain) → AllStand ss cs → StandsFor s c → AllStand (ss ++ (s ∷ [])) (cs ++ (c ∷ []))
stand_push [] [] s c all one = (one, tt)
stand_push [] (d ∷ cs) s c all one = absurd all
stand_push (t ∷ ss) [] s c all one = absurd all
stand_push (t ∷ ss) (d ∷ cs) s c all one = (all.0, stand_push ss cs s c all.1 one)
