use Rattle.std.proofs.Common.{◌≡◌, take}
use Rattle.random.specs.Drawing.{state_after, numbers}
use Rattle.random.proofs.Random.list.Given as goal

-- the numbers so far are drawn
abbrev pub invariant-loop-number : goal.invariant-loop-number
invariant-loop-number l = record {
  state : l.self ≡ state_after l.initial.self l.number-index;
  drawn : take l.number-index l.number-items ≡ numbers l.initial.self l.number-index l.n;
}
