use Rattle.std.proofs.Common.{◌≡◌, vec_items}
use Rattle.watch.specs.Calls.{steps}
use Rattle.watch.specs.Meaning.{ledger_of}
use Rattle.watch.specs.Run.{Run}
use Rattle.watch.proofs.conduct.conduct.Given as goal

-- the answers so far are right, and the watch stands for the ledger that the calls so far leave
abbrev pub invariant-loop-call : goal.invariant-loop-call
invariant-loop-call g l =
    let k = g.T.Value.Cost.kind in
    let start = ledger_of g.T.TraceTable.means l.initial.watch in
    Run k start l.yielded (vec_items l.answers) × (ledger_of g.T.TraceTable.means l.watch ≡ steps k start l.yielded)
