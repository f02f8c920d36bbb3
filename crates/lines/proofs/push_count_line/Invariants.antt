use Rattle.std.proofs.Common.{◌≡◌, ◌++◌, map, take, string_bytes, decimal}
use Rattle.lines.specs.Lines.{spaced}
use Rattle.lines.proofs.push_count_line.Given as goal

abbrev pub invariant-loop-count : goal.invariant-loop-count
invariant-loop-count l =
    string_bytes l.out ≡ string_bytes l.initial.out ++ spaced (map decimal (take l.count-index l.counts))
