use Rattle.std.proofs.Common.{[], ◌∷◌, vec_items, sym, ap, ◌∙◌, subst}
use Rattle.std.proofs.lemmas.List.Sums.{fold-append}
use Rattle.watch.specs.Calls.{step, steps}
use Rattle.watch.specs.Ledger.{Ledger}
use Rattle.watch.specs.Meaning.{ledger_of}
use Rattle.watch.specs.Run.{Right}
use Rattle.watch.proofs.Runs.{run_push, opens_at, all_came}
use Rattle.watch.proofs.conduct.conduct.Goals as goal

pub loop-call-preserved : goal.loop-call-preserved
loop-call-preserved g c =
    let k = g.T.Value.Cost.kind in
    let start = ledger_of g.T.TraceTable.means c.in_ok-watch.watch in
    let ys = c.loop-call.yielded in
    let call = c.in-Some.call in
    let done = c.carry_out-answer.ensures in
    let right : Right k (steps k start ys) call c.carry_out-answer.result =
    subst (λ (l : Ledger g.row.T-Value.Denot). Right k l call c.carry_out-answer.result) c.loop-call.invariant.1 done.right in (
      rw c.in_ok-push.ensures.items (run_push k start ys (vec_items c.loop-call.answers) call _ c.loop-call.invariant.0 right),
      done.after ∙ ap (λ (l : Ledger g.row.T-Value.Denot). step k l call) c.loop-call.invariant.1 ∙ sym (fold-append (step k) start ys (call ∷ [])),
    )

pub returns : goal.returns
returns g c =
    let opens = opens_at _ c.in_ok-watch.ensures in
    let all = all_came c.into_iter-call-iterator.result c.loop-call.yielded c.loop-call.call-iterator c.next.new.self c.loop-call.yielded_by c.in-None.ensures.steps ∙ c.into_iter-call-iterator.ensures.into_iter_gives.0 in
    record { opens = opens.0; run = rw (← opens.1, ← all) c.loop-call.invariant.0 }
