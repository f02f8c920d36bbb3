-- A run that is one call longer.
use Rattle.std.proofs.Common.{◌≡◌, ℕ, Bool, true, false, cond, List, [], ◌∷◌, ◌++◌, None, Ok, Err, Result, sym, refl, ◌∙◌}
use Rattle.std.specs.Iterator.{Yields}
use Rattle.std.specs.Vec.Iter.{into_iter_steps, into_iter_items}
use Rattle.std.specs.declared.vec.IntoIter.{IntoIter}
use Rattle.std.proofs.lemmas.List.{map-id}
use Rattle.std.proofs.lemmas.Iterator.Consumers.{YieldsList-from_shown, YieldsList-end}
use Rattle.costs.specs.Kind.{Kind}
use Rattle.watch.specs.Calls.{step, steps}
use Rattle.watch.specs.Ledger.{Ledger}
use Rattle.watch.specs.Run.{Right, Run}
use Rattle.watch.specs.declared.call.Answer.{Answer}
use Rattle.watch.specs.declared.call.Call.{Call}
use Rattle.watch.proofs.Outcomes.{never}

pub run_push : {C : Type 0} (k : Kind C) (l : Ledger C) (cs : List (Call C)) (rs : List (Answer C)) (c : Call C) (r : Answer C) → Run k l cs rs → Right k (steps k l cs) c r → Run k l (cs ++ (c ∷ [])) (rs ++ (r ∷ []))
run_push k l [] [] c r run right = (right, tt)
run_push k l [] (q ∷ rs) c r run right = absurd run
run_push k l (d ∷ cs) [] c r run right = absurd run
run_push k l (d ∷ cs) (q ∷ rs) c r run right = (run.0, run_push k (step k l d) cs rs c r run.1 right)

-- an opening that was accepted
pub opens_at : {C : Type 0} {l m : Ledger C} (b : Bool) → ◌≡◌ {A = Result (Ledger C) ℕ} (Ok l) (cond b (Ok m) (Err 9)) → (b ≡ true) × (l ≡ m)
opens_at true e = (refl, cc)
opens_at {l} {m} false e = never cc

-- a `for` that takes a Vec apart has met all its items at its end
pub all_came : {X Z : Type 0} (s : IntoIter X Z) (xs : List X) (t u : IntoIter X Z) → Yields into_iter_steps s xs t → into_iter_steps t None u → xs ≡ into_iter_items s
all_came s xs t u y h =
    sym (map-id xs) ∙ (YieldsList-end (YieldsList-from_shown into_iter_steps (λ x. x) into_iter_items (λ s t h. sym s.rest.ok.0 ∙ h.0) (λ s x t h. h.0) s) xs t y None u refl h).0
