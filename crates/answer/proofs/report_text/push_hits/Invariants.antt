use Rattle.std.proofs.Common.{◌≡◌, ◌++◌, take, string_bytes}
use Rattle.answer.specs.Lines.{hits_bytes}
use Rattle.answer.proofs.report_text.push_hits.Given as goal

abbrev pub invariant-loop-hit : goal.invariant-loop-hit
invariant-loop-hit g l =
    string_bytes l.out ≡ string_bytes l.initial.out ++ hits_bytes g.C.Printed.parts l.places (take l.hit-index l.hits)
