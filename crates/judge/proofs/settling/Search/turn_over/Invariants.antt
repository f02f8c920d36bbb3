use Rattle.std.proofs.Common.{◌≡◌, ◌-◌}
use Rattle.tables.specs.Table.{Within}
use Rattle.judge.specs.Settling.{finder_in, turned, WayBack}
use Rattle.judge.proofs.settling.Search.turn_over.Given as goal

abbrev pub invariant-loop-turn : goal.invariant-loop-turn
invariant-loop-turn g l =
    let left = l.self.pairs.size - l._turn in
    Within l.self.pairs.size l.number
    × WayBack left l.self.pairs.size (finder_in l.self.known) l.event l.seats l.number
    × (turned left (finder_in l.self.known) l.event l.seats l.number ≡ turned l.self.pairs.size (finder_in l.self.known) l.event l.initial.seats l.sink)
