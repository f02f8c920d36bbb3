use Rattle.std.proofs.Common.{◌≡◌, ℕ}
use Rattle.tables.specs.Table.{Within}
use Rattle.judge.specs.Grades.{event_price}
use Rattle.judge.specs.Rows.{listed}
use Rattle.judge.specs.Settling.{graded}
use Rattle.judge.proofs.reporting.write_event_prices.Given as goal

abbrev pub invariant-loop-event : goal.invariant-loop-event
invariant-loop-event g l =
    let k = g.C.Cost.kind in
    (r : ℕ) → Within l.event r → listed l.price-items k.zero r ≡ event_price k (graded l.pairs) l.numbers (listed l.number_prices k.zero) r
