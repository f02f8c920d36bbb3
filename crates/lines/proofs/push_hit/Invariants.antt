use Rattle.std.proofs.Common.{◌≡◌, ◌++◌, map, take, string_bytes, decimal}
use Rattle.lines.specs.Lines.{spaced}
use Rattle.lines.proofs.push_hit.Given as goal

abbrev pub invariant-loop-number : goal.invariant-loop-number
invariant-loop-number g l =
    string_bytes l.out ≡ string_bytes l.initial.out ++ spaced (map decimal (take l.number-index l.numbers))
