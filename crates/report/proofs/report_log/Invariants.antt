use Rattle.std.proofs.Common.{◌≡◌, ◌-◌, true, length, vec_items}
use Rattle.judge.specs.Sheets.{sheet_lists, lengths}
use Rattle.watch.specs.Meaning.{ledger_of}
use Rattle.report.proofs.Partly.{Partly}
use Rattle.report.proofs.Rooms.{room_for}
use Rattle.report.proofs.report_log.Given as goal

-- a report of the events that were fed, and lists that are long enough
abbrev pub invariant-loop-fed : goal.invariant-loop-fed
invariant-loop-fed g l =
    let start = ledger_of g.T.TraceTable.means l.initial.watch in
    let here = ledger_of g.T.TraceTable.means l.watch in
    Partly g.T.Value.Cost.kind start here l.log l.fed (vec_items l.hits) l.counts
    × (room_for start.table.size (lengths (sheet_lists l.sheet)) ≡ true)

abbrev pub decreases-loop-fed : goal.decreases-loop-fed
decreases-loop-fed g l = length l.log - l.fed
