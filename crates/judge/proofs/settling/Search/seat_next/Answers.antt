use Rattle.std.proofs.Common.{◌≡◌, ℕ, suc, ◌+◌, sym, ap, ◌∙◌, subst, arith}
use Rattle.judge.specs.Rows.{Agree, AgreePast, listed, less_end}
use Rattle.judge.specs.Settling.{graded, seat_in, scanned_in, finder_in, turned, WayBack}
use Rattle.judge.proofs.Places.{augments, OneMore}
use Rattle.judge.proofs.settling.Search.seat_next.Goals as goal

pub turn_over-requires : goal.turn_over-requires
turn_over-requires g c =
    let k = g.C.Cost.kind in
    let pairs = c.args.self.now.pairs in
    let s = pairs.size in
    let seats = c.args.seats.now in
    let v = listed c.args.prices.now k.zero in
    let now = c.find_sink-sink.new.self in
    let j = c.find_sink-sink.result in
    let same = c.find_sink-sink.ensures.pairs in
    let w = listed c.reprice.new.prices k.zero in
    let is = subst (λ p. Agree p.size w (less_end k (scanned_in now.known) (listed now.paths.now k.zero) c.cost_at-end.result v)) same c.reprice.ensures.is in
    let way = (augments k g.met.C.Cost.laws (graded pairs) s c.args.event c.requires.solvable.bounded (omega (arith, pairs.grid.small)) seats v now.known now.paths.now j
    c.find_sink-sink.ensures.found c.requires.seated c.cost_at-end.result c.cost_at-end.ensures w is).0 in
    subst (λ p. WayBack p.size p.size (finder_in now.known) c.args.event seats (j + 1)) (sym same) (subst (λ (n : ℕ). WayBack s s (finder_in now.known) c.args.event seats n) (omega arith) way)

pub returns : goal.returns
returns g c =
    let k = g.C.Cost.kind in
    let pairs = c.args.self.now.pairs in
    let s = pairs.size in
    let seats = c.args.seats.now in
    let v = listed c.args.prices.now k.zero in
    let now = c.find_sink-sink.new.self in
    let j = c.find_sink-sink.result in
    let same = c.find_sink-sink.ensures.pairs in
    let w = listed c.reprice.new.prices k.zero in
    let is = subst (λ p. Agree p.size w (less_end k (scanned_in now.known) (listed now.paths.now k.zero) c.cost_at-end.result v)) same c.reprice.ensures.is in
    let done = (augments k g.met.C.Cost.laws (graded pairs) s c.args.event c.requires.solvable.bounded (omega (arith, pairs.grid.small)) seats v now.known now.paths.now j
    c.find_sink-sink.ensures.found c.requires.seated c.cost_at-end.result c.cost_at-end.ensures w is).1 in
    let next : suc j ≡ j + 1 = omega arith in
    let turned-is = c.turn_over.ensures ∙ ap (λ p. turned p.size (finder_in now.known) c.args.event seats (j + 1)) same in
    let new = subst (OneMore k (graded pairs) s c.args.event (seat_in seats) w (finder_in now.known)) (sym turned-is) (subst (λ (n : ℕ). OneMore k (graded pairs) s c.args.event (seat_in seats) w (finder_in now.known) (turned s (finder_in now.known) c.args.event seats n)) next done) in
    record { seated = new.0; more = new.1; beyond = subst (λ p. AgreePast p.size w v) same c.reprice.ensures.beyond; pairs = same }
