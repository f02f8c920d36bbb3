use Rattle.std.proofs.Common.{arith}
use Rattle.judge.proofs.Bits.{less_ones, less_in, less_others}
use Rattle.judge.proofs.place.without.Goals as goal

pub returns : goal.returns
returns c = rw c.bit.ensures (record {
  fewer = less_ones c.args.row c.args.place (omega arith) c.requires;
  inner = less_in c.args.row c.args.place (omega arith) c.requires;
  others = less_others c.args.row c.args.place (omega arith) c.requires;
})
