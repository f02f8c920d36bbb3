use Rattle.judge.specs.Rows.{listed, less_end}
use Rattle.judge.specs.Settling.{scanned_in}
use Rattle.judge.proofs.Rows.{Over}
use Rattle.judge.proofs.settling.Search.reprice.Given as goal

abbrev pub invariant-loop-place : goal.invariant-loop-place
invariant-loop-place g l =
    let k = g.C.Cost.kind in
    let old = listed l.initial.prices k.zero in
    Over l.place (listed l.prices k.zero) (less_end k (scanned_in l.self.known) (listed l.self.paths.now k.zero) l.end old) old
