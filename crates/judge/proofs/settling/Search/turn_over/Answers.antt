use Rattle.std.proofs.Common.{◌≡◌, ℕ, ◌+◌, ◌-◌, sym, ap, ◌∙◌, subst, arith}
use Rattle.judge.specs.Rows.{or_none}
use Rattle.judge.specs.Settling.{seat_in, finder_in, turned, WayBack}
use Rattle.judge.proofs.Turned.{way_numbers, way_next, turned_next, turned_last}
use Rattle.judge.proofs.settling.Search.turn_over.Goals as goal

pub loop-turn-init : goal.loop-turn-init
loop-turn-init g c =
    let by = finder_in c.args.self.now.known in
    let all : c.args.self.now.pairs.size - 0 ≡ c.args.self.now.pairs.size = omega arith in (
      (way_numbers c.args.self.now.pairs.size c.args.self.now.pairs.size by c.args.event c.args.seats.now c.args.sink c.requires).0,
      subst (λ (f : ℕ). WayBack f c.args.self.now.pairs.size by c.args.event c.args.seats.now c.args.sink) (sym all) c.requires,
      ap (λ (f : ℕ). turned f by c.args.event c.args.seats.now c.args.sink) all,
    )

pub unreachable-requires : goal.unreachable-requires
unreachable-requires g c =
    let by = finder_in c.args.self.now.known in
    let way = way_numbers (c.args.self.now.pairs.size - c.loop-turn._turn) c.args.self.now.pairs.size by c.args.event c.loop-turn.seats c.loop-turn.number c.loop-turn.invariant.1 in
    omega (arith, way.1, ap or_none (sym c.finder-found.ensures ∙ c.in_default.is))

pub seat-own-requires : goal.seat-own-requires
seat-own-requires g c =
    let by = finder_in c.args.self.now.known in
    let way = way_numbers (c.args.self.now.pairs.size - c.loop-turn._turn) c.args.self.now.pairs.size by c.args.event c.loop-turn.seats c.loop-turn.number c.loop-turn.invariant.1 in
    let i-is : by c.loop-turn.number ≡ c.in-Some.finder = ap or_none (sym c.finder-found.ensures ∙ c.in-Some.is) in
    record { event = omega (arith, way.1, i-is, c.args.self.now.pairs.grid.small); number = omega (arith, way.0, c.args.self.now.pairs.grid.small) }

pub returns-then-finder-event : goal.returns-then-finder-event
returns-then-finder-event g c =
    turned_last c.args.self.now.pairs.size c.loop-turn._turn (omega (arith, c.loop-turn-test.true)) (finder_in c.args.self.now.known) c.args.event c.loop-turn.seats c.seat-own.new.self c.loop-turn.number c.in-Some.finder
    (ap or_none (sym c.finder-found.ensures ∙ c.in-Some.is)) c.seat-own.ensures.seats c.if-finder-event.true
    ∙ c.loop-turn.invariant.2

pub unreachable-requires-in_default-own : goal.unreachable-requires-in_default-own
unreachable-requires-in_default-own g c =
    let by = finder_in c.args.self.now.known in
    let none : 0 ≡ seat_in c.loop-turn.seats c.in-Some.finder = ap or_none (sym c.in_default-own.is ∙ c.seat-own.ensures.own) in
    let on = way_next c.args.self.now.pairs.size c.loop-turn._turn (omega (arith, c.loop-turn-test.true)) by c.args.event c.loop-turn.seats c.seat-own.new.self c.loop-turn.number c.in-Some.finder
    (ap or_none (sym c.finder-found.ensures ∙ c.in-Some.is)) c.seat-own.ensures.seats c.if-finder-event.false 0 none c.loop-turn.invariant.1 in
    omega (arith, (way_numbers (c.args.self.now.pairs.size - (c.loop-turn._turn + 1)) c.args.self.now.pairs.size by c.args.event c.seat-own.new.self 0 on).0)

pub loop-turn-preserved : goal.loop-turn-preserved
loop-turn-preserved g c =
    let by = finder_in c.args.self.now.known in
    let next_is : c.in-Some-own.next ≡ seat_in c.loop-turn.seats c.in-Some.finder = ap or_none (sym c.in-Some-own.is ∙ c.seat-own.ensures.own) in
    let on = way_next c.args.self.now.pairs.size c.loop-turn._turn (omega (arith, c.loop-turn-test.true)) by c.args.event c.loop-turn.seats c.seat-own.new.self c.loop-turn.number c.in-Some.finder
    (ap or_none (sym c.finder-found.ensures ∙ c.in-Some.is)) c.seat-own.ensures.seats c.if-finder-event.false c.in-Some-own.next next_is c.loop-turn.invariant.1 in (
      (way_numbers (c.args.self.now.pairs.size - (c.loop-turn._turn + 1)) c.args.self.now.pairs.size by c.args.event c.seat-own.new.self c.in-Some-own.next on).0,
      on,
      turned_next c.args.self.now.pairs.size c.loop-turn._turn (omega (arith, c.loop-turn-test.true)) by c.args.event c.loop-turn.seats c.seat-own.new.self c.loop-turn.number c.in-Some.finder
          (ap or_none (sym c.finder-found.ensures ∙ c.in-Some.is)) c.seat-own.ensures.seats c.if-finder-event.false c.in-Some-own.next next_is
          ∙ c.loop-turn.invariant.2,
    )
