use Rattle.std.proofs.Common.{◌+◌, ◌≤◌}
use Rattle.judge.specs.Judging.{lists, Room}
use Rattle.watch.specs.Meaning.{ledger_of}
use Rattle.watch.proofs.Walks.{Came}
use Rattle.watch.proofs.Watch.walk.Given as goal

-- where the walk has come; the counts do not pass the events that were fed
abbrev pub invariant-loop-i : goal.invariant-loop-i
invariant-loop-i g l =
    let k = g.T.Value.Cost.kind in
    let start = ledger_of g.T.TraceTable.means l.initial.self in
    let here = ledger_of g.T.TraceTable.means l.self in
    let before = lists l.initial.numbers l.initial.event_prices l.initial.number_prices l.initial.marks l.initial.work in
    let between = lists l.numbers l.event_prices l.number_prices l.marks l.work in
    Came k start here l.events l.i l.over l.none before between
    × Room here.table.size between
    × (l.over + l.none ≤ l.i)
