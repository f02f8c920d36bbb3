use Rattle.std.proofs.Common.{arith}
use lib.Bits.{bit_and}
use Rattle.std.specs.Int.{w32}
use Rattle.std.proofs.lemmas.Nat.{and_le_l}
use Rattle.std.proofs.lemmas.Nat.Bits.{bit_at-trailing_zeros}
use Rattle.judge.proofs.Bits.{none_common, and_has}
use Rattle.judge.proofs.place.common_place.Goals as goal

pub returns-then-both-eq0 : goal.returns-then-both-eq0
returns-then-both-eq0 c = none_common c.args.row c.args.untried c.if-both-eq0.true

pub returns-else-both-eq0 : goal.returns-else-both-eq0
returns-else-both-eq0 c =
    let both = bit_and c.args.row c.args.untried in
    and_has c.args.row c.args.untried _ (bit_at-trailing_zeros w32 both (omega arith) (omega (arith, and_le_l c.args.row c.args.untried))).1
