use Rattle.std.proofs.Common.{◌≡◌, take}
use Rattle.watch.specs.Meaning.{ledger_of}
use Rattle.answer.specs.Answers.{with_pins}
use Rattle.answer.proofs.job_report.lay_pins.Given as goal

abbrev pub invariant-loop-pin : goal.invariant-loop-pin
invariant-loop-pin g l =
    ledger_of g.T.TraceTable.means l.watch ≡ with_pins (ledger_of g.T.TraceTable.means l.initial.watch) (take l.pin-index l.pins)
