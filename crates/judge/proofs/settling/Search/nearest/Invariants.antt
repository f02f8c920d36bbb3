use Rattle.judge.specs.Rows.{listed}
use Rattle.judge.specs.Settling.{scanned_in, path_in}
use Rattle.judge.proofs.Rows.{Near}
use Rattle.judge.proofs.settling.Search.nearest.Given as goal

abbrev pub invariant-loop-place : goal.invariant-loop-place
invariant-loop-place g l =
    Near g.C.Cost.kind g.met.C.Cost.laws (scanned_in l.self.known) (path_in g.C.Cost.kind l.self.known l.self.paths.now) (listed l.prices g.C.Cost.kind.zero) l.place l.best
