-- What a summing table that is kept in a ring means.
use Rattle.std.specs.Prelude.{ℕ}
use Rattle.costs.specs.Kind.{Kind}
use Rattle.tables.specs.Ring.{ring_events}
use Rattle.tables.specs.Summing.{summing}
use Rattle.tables.specs.Table.{Table}
use Rattle.tables.specs.declared.grade.Grade.{Grade}
use Rattle.tables.specs.declared.summed.Summed.{Summed}

abbrev pub summed_table : {P C : Type 0} → Kind C → (P → ℕ → ℕ → Grade C) → Summed P → Table C
summed_table k prices t = summing k (prices t.pricing) t.size t.trace.items (ring_events t.window)
