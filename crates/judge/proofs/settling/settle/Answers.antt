use Rattle.std.proofs.Common.{◌+◌, refl, sym, ◌∙◌, subst, arith}
use Rattle.judge.specs.Rows.{AgreePast, listed}
use Rattle.judge.specs.Seating.{SeatsOneMore}
use Rattle.judge.specs.Settling.{graded, seat_in, Seated, Ready}
use Rattle.judge.proofs.Places.{SeatedUpTo, nobody_seated, seated_none, seated_more}
use Rattle.judge.proofs.settling.settle.Goals as goal

pub loop-place-init : goal.loop-place-init
loop-place-init g c =
    let k = g.C.Cost.kind in
    let pairs = c.args.pairs.now in
    let prices = listed c.clear.new.prices k.zero in
    let fresh = sym c.new.ensures in (
      refl,
      subst (λ seats. Seated k (graded pairs) pairs.size seats prices) fresh (nobody_seated k g.met.C.Cost.laws (graded pairs) pairs.size pairs.grid.small prices (λ d w. c.clear.ensures.zero d (omega (arith, w)))),
      subst (λ seats. SeatedUpTo pairs.size 0 (seat_in seats)) fresh (seated_none pairs.size),
      λ d h. refl,
    )

pub seat_next-requires : goal.seat_next-requires
seat_next-requires g c =
    let inv = c.loop-place.invariant in
    subst (λ p. Ready g.C.Cost.kind p (c.loop-place.place + 1) c.loop-place.seats c.loop-place.prices) (sym inv.0) (record {
      solvable = c.requires.solvable;
      event = omega (arith, c.loop-place-test.true);
      unseated = (inv.2 (c.loop-place.place + 1) (omega (arith, c.loop-place-test.true))).1 (omega arith);
      seated = inv.1;
      prices_long = omega (arith, c.requires.prices);
    })

pub loop-place-preserved : goal.loop-place-preserved
loop-place-preserved g c =
    let k = g.C.Cost.kind in
    let inv = c.loop-place.invariant in
    let did = c.seat_next.ensures in
    let pairs = c.args.pairs.now in
    let new = c.seat_next.new in
    let more = subst (λ p. SeatsOneMore k (graded p) p.size (seat_in c.loop-place.seats) (c.loop-place.place + 1) (seat_in new.seats)) inv.0 did.more in
    let beyond = subst (λ p. AgreePast p.size (listed new.prices k.zero) (listed c.loop-place.prices k.zero)) inv.0 did.beyond in (
      did.pairs ∙ inv.0,
      subst (λ p. Seated k (graded p) p.size new.seats (listed new.prices k.zero)) inv.0 did.seated,
      seated_more k (graded pairs) pairs.size c.loop-place.place (seat_in c.loop-place.seats) (seat_in new.seats) inv.2 more,
      λ d h. beyond d h ∙ inv.3 d h,
    )

pub returns : goal.returns
returns g c =
    let inv = c.loop-place.invariant in
    record {
      seated = inv.1;
      all = λ i w. (inv.2 i w).0 (omega (arith, w, c.loop-place-test.false));
      beyond = λ d h. inv.3 d h ∙ c.clear.ensures.beyond d (omega (arith, h));
    }
