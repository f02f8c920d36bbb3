use Rattle.std.proofs.Common.{◌≡◌, [], take}
use Rattle.std.specs.List.{fold}
use Rattle.tables.specs.Summed.{summed_table}
use Rattle.tables.specs.Summing.{summing}
use Rattle.tables.specs.Table.{taken}
use Rattle.shown.specs.declared.worked.TheConstants.{SIZE, TRACE}
use Rattle.shown.proofs.worked.full_table.Given as goal

-- the events so far are taken
abbrev pub invariant-loop-event : goal.invariant-loop-event
invariant-loop-event g l =
    summed_table g.P.Value.Cost.kind g.P.Pricing.prices l.table
    ≡ fold taken (summing g.P.Value.Cost.kind (g.P.Pricing.prices l.fn.pricing) SIZE TRACE []) (take l.event-index l.event-items)
