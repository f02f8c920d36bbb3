use Rattle.std.proofs.Common.{length, sym, ap, ◌∙◌, arith}
use Rattle.job.specs.Content.{laid}
use Rattle.job.proofs.reader.Reader.new.Goals as goal

pub invariant_of-result-2 : goal.invariant_of-result-2
invariant_of-result-2 c = record {
  sized = omega arith;
  pin_room = omega (arith, ap length c.new.ensures);
  trace_room = omega (arith, ap length c.new-2.ensures);
  log_room = omega arith;
  stands = c.none.ensures ∙ ap (laid 0) (sym c.new.ensures);
}
