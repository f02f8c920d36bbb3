use Rattle.std.proofs.Common.{◌≡◌}
use Rattle.judge.specs.Rows.{listed}
use Rattle.judge.specs.Settling.{graded, Searching}
use Rattle.judge.proofs.settling.Search.find_sink.Given as goal

abbrev pub invariant-loop-turn : goal.invariant-loop-turn
invariant-loop-turn g l =
    let k = g.C.Cost.kind in
    let pairs = l.fn.self.pairs in
    (l.self.pairs ≡ pairs)
    × Searching k (graded pairs) pairs.size l._turn l.event l.seats (listed l.prices k.zero) l.self.known l.self.paths.now
