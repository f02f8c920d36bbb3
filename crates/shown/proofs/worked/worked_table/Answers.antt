use Rattle.std.proofs.Common.{◌≡◌, ℕ, Bool, true, false, cond, Ok, Err, Result}
use Rattle.shown.proofs.worked.worked_table.Goals as goal

-- what is made where a pricing can be used
made : {T : Type 0} (b : Bool) (t u : T) → let r : Result T ℕ = Ok t in r ≡ cond b (Ok u) (Err 8) → t ≡ u
made true t u e = cc
made false t u e = cc

pub returns-clause-table : goal.returns-clause-table
returns-clause-table g c = made (g.P.Pricing.usable c.args.pricing) _ _ c.in-Ok.ensures
