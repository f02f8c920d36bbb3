use Rattle.std.proofs.Common.{suc}
use Rattle.tables.specs.Limits.{max_size}
use Rattle.tables.proofs.Pinned.{pins_none}
use Rattle.tables.proofs.pinning.Pinning.none.Goals as goal

pub returns : goal.returns
returns c = pins_none (suc max_size)
