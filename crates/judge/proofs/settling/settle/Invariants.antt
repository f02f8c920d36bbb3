use Rattle.std.proofs.Common.{◌≡◌, ℕ, ◌<◌}
use Rattle.judge.specs.Rows.{listed}
use Rattle.judge.specs.Settling.{graded, seat_in, Seated}
use Rattle.judge.proofs.Places.{SeatedUpTo}
use Rattle.judge.proofs.settling.settle.Given as goal

abbrev pub invariant-loop-place : goal.invariant-loop-place
invariant-loop-place g l =
    let k = g.C.Cost.kind in
    let s = l.fn.pairs.size in
    (l.search.pairs ≡ l.fn.pairs)
    × Seated k (graded l.fn.pairs) s l.seats (listed l.prices k.zero)
    × SeatedUpTo s l.place (seat_in l.seats)
    × ((c : ℕ) → s < c → listed l.prices k.zero c ≡ listed l.initial.prices k.zero c)
