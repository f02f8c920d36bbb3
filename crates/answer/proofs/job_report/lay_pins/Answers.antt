use Rattle.watch.specs.Meaning.{ledger_of}
use Rattle.answer.proofs.Pinnings.{one_more_pin}
use Rattle.answer.proofs.job_report.lay_pins.Goals as goal

pub loop-pin-preserved : goal.loop-pin-preserved
loop-pin-preserved g c =
    let means = g.T.TraceTable.means in
    one_more_pin (ledger_of means c.args.watch.now) (ledger_of means c.loop-pin.watch) (ledger_of means c.pin.new.self) c.args.pins.now c.loop-pin.pin-index (record { event = 0; number = 0 }) c.loop-pin-test.true c.loop-pin.invariant c.pin.ensures.after
