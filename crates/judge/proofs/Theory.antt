-- The theorems, proved.
use Rattle.judge.specs.Theory.{Theory}
use Rattle.judge.proofs.Duality.{duality}
use Rattle.judge.proofs.Least.{cheapest_is_least, violator_leaves_none}
use Rattle.judge.proofs.Listing.{enumerated}
use Rattle.judge.proofs.Right.{right}
use Rattle.judge.proofs.Settled.{settled}
use Rattle.judge.proofs.Violators.{violators}

pub theory : (C : Type 0) → Theory C
theory C = record {
  prices_prove = duality C;
  marks_prove = violators C;
  all_are_tried = enumerated;
  tried_find_least = cheapest_is_least C;
  tried_find_none = violator_leaves_none C;
  lists_tell_verdict = right C;
  one_always_is = settled C;
}
