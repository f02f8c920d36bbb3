-- The ledger that a watch stands for.
use Rattle.tables.specs.Pins.{pins_in}
use Rattle.tables.specs.Table.{Table}
use Rattle.watch.specs.Ledger.{Ledger}
use Rattle.watch.specs.declared.Watch.{Watch}

abbrev pub ledger_of : {T C : Type 0} → (T → Table C) → Watch T C → Ledger C
ledger_of means w = record { table = means w.table.table; pins = pins_in w.table.pins; bound = w.bound }
