use Rattle.std.proofs.Common.{◌≡◌, ℕ, suc, ◌-◌, ◌<◌, length, get_or, set, Some, None, sym, ap, ◌∙◌, subst, arith}
use Rattle.judge.specs.declared.settling.Reach.TheVariants.{Unseen, Scanned}
use Rattle.judge.specs.Rows.{listed, or_none, path_by, NearestPlace}
use Rattle.judge.specs.Settling.{graded, seat_in, holder_in, is_scanned, finder_of, scanned_in, finder_in, path_in, Relaxed, Searching}
use Rattle.judge.proofs.Goings.{fewer_done, held_open}
use Rattle.judge.proofs.Rows.{listed_suc}
use Rattle.judge.proofs.Places.{holder_at, unseen, listed_replicate, path_cost, starts, never_stuck, scans_on}
use Rattle.judge.proofs.settling.Search.find_sink.Goals as goal

pub loop-turn-init : goal.loop-turn-init
loop-turn-init g c =
    let k = g.C.Cost.kind in
    let pairs = c.args.self.now.pairs in
    let seats = c.args.seats.now in
    let now = c.relax_row.new.self in
    let paths = c.args.self.now.paths.now in
    let after = c.relax_row.ensures.relaxed in (
      c.relax_row.ensures.pairs,
      starts k g.met.C.Cost.laws (graded pairs) pairs.size c.requires.solvable.bounded c.args.event c.requires.event (seat_in seats) (holder_in seats) c.requires.seated.u (listed c.args.prices.now k.zero) c.requires.seated.seating c.requires.unseated c.zero.result c.zero.ensures
          (scanned_in unseen) (scanned_in now.known) (path_in k unseen paths) (path_in k now.known now.paths.now) (finder_in unseen) (finder_in now.known)
          (λ d w. ap is_scanned (listed_replicate 32 Unseen (d - 1))) (λ d w. ap (λ x. path_by (finder_of x) (listed paths k.zero d)) (listed_replicate 32 Unseen (d - 1)))
          (λ d w. after.scanned d w.0) after.path after.finder,
    )

pub unreachable-requires : goal.unreachable-requires
unreachable-requires g c =
    let k = g.C.Cost.kind in
    let pairs = c.args.self.now.pairs in
    let seats = c.args.seats.now in
    let v = listed c.args.prices.now k.zero in
    let now = c.loop-turn.self in
    never_stuck k g.met.C.Cost.laws (graded pairs) pairs.size c.requires.solvable.bounded c.loop-turn._turn c.args.event (seat_in seats) (holder_in seats)
    v (scanned_in now.known) (path_in k now.known now.paths.now) (finder_in now.known) c.loop-turn.invariant.1 c.requires.solvable
    (subst (λ p. NearestPlace k p.size v (scanned_in now.known) (path_in k now.known now.paths.now) None) c.loop-turn.invariant.0 c.in_default.ensures)

pub grade-requires : goal.grade-requires
grade-requires g c =
    let k = g.C.Cost.kind in
    let pairs = c.args.self.now.pairs in
    let same : c.loop-turn.self.pairs.size ≡ pairs.size = ap (λ p. p.size) c.loop-turn.invariant.0 in
    let lt = c.in-Some.ensures.0 in
    let held = holder_at k (graded pairs) pairs.size c.args.seats.now (listed c.args.prices.now k.zero) c.requires.seated c.in-Some.place c.in-Some-held.holder (omega (arith, lt)) c.in-Some-held.is in
    record { event = held.0; place = omega (arith, lt) }

pub unreachable-requires-in_default-grade : goal.unreachable-requires-in_default-grade
unreachable-requires-in_default-grade g c =
    let k = g.C.Cost.kind in
    let pairs = c.args.self.now.pairs in
    let seats = c.args.seats.now in
    let v = listed c.args.prices.now k.zero in
    let now = c.loop-turn.self in
    let j = c.in-Some.place in
    let i = c.in-Some-held.holder in
    let same = c.loop-turn.invariant.0 in
    let size : now.pairs.size ≡ pairs.size = ap (λ p. p.size) same in
    let lt : j < pairs.size = omega (arith, c.in-Some.ensures.0) in
    let held = holder_at k (graded pairs) pairs.size seats v c.requires.seated j i lt c.in-Some-held.is in
    let o = held_open k g.met.C.Cost.laws (graded pairs) pairs.size c.requires.solvable.bounded c.loop-turn._turn c.args.event (seat_in seats) (holder_in seats) v (scanned_in now.known) (path_in k now.known now.paths.now) (finder_in now.known) c.loop-turn.invariant.1
    (suc j) (omega (arith, lt)) (omega (arith, held.1, held.0.0)) in
    c.in_default-grade.not-Open o.0 (c.grade.ensures ∙ ap (λ (z : ℕ). graded pairs z (suc j)) (sym held.1) ∙ o.1)

pub relax_row-requires-in-loop-turn : goal.relax_row-requires-in-loop-turn
relax_row-requires-in-loop-turn g c =
    let k = g.C.Cost.kind in
    let pairs = c.args.self.now.pairs in
    let same : c.loop-turn.self.pairs.size ≡ pairs.size = ap (λ p. p.size) c.loop-turn.invariant.0 in
    let held = holder_at k (graded pairs) pairs.size c.args.seats.now (listed c.args.prices.now k.zero) c.requires.seated c.in-Some.place c.in-Some-held.holder (omega (arith, c.in-Some.ensures.0)) c.in-Some-held.is in
    (omega (arith, held.0), omega (arith, held.0))

pub loop-turn-preserved : goal.loop-turn-preserved
loop-turn-preserved g c =
    let k = g.C.Cost.kind in
    let pairs = c.args.self.now.pairs in
    let s = pairs.size in
    let seats = c.args.seats.now in
    let v = listed c.args.prices.now k.zero in
    let now = c.loop-turn.self in
    let paths = now.paths.now in
    let after = c.relax_row-in-loop-turn.new.self in
    let j = c.in-Some.place in
    let i = c.in-Some-held.holder in
    let same = c.loop-turn.invariant.0 in
    let near = subst (λ p. NearestPlace k p.size v (scanned_in now.known) (path_in k now.known paths) (Some j)) same c.in-Some.ensures in
    let held = holder_at k (graded pairs) s seats v c.requires.seated j i near.0 c.in-Some-held.is in
    let p = near.1.0 in
    let p-is : get_or paths j k.zero ≡ p = sym (listed_suc paths k.zero j) ∙ path_cost (finder_of (listed now.known Unseen (suc j))) (listed paths k.zero (suc j)) p near.1.1.1 in
    let y = c.in-Open.cost in
    let y-is = sym c.in-Open.ensures in
    let lead_is : c.minus-lead.result ≡ k.minus p y = c.minus-lead.ensures ∙ ap (λ z. k.minus z y) (c.cost_at.ensures ∙ p-is) in
    let inside : j < length now.known = omega (arith, near.0, pairs.grid.small) in
    let on = scans_on k g.met.C.Cost.laws (graded pairs) s c.requires.solvable.bounded c.loop-turn._turn c.args.event seats v now.known paths c.loop-turn.invariant.1 j i c.in-Reached.finder near.0 inside (omega (arith, pairs.grid.small)) held.0 held.1
    p near.1.1 y y-is c.minus-lead.result lead_is c.in-Reached.is after.known after.paths.now
    (subst (λ p. Relaxed k (graded p) p.size i c.minus-lead.result (set now.known j (Scanned c.in-Reached.finder)) paths after.known after.paths.now) same c.relax_row-in-loop-turn.ensures.relaxed) in (
      c.relax_row-in-loop-turn.ensures.pairs ∙ same,
      subst (λ (n : ℕ). Searching k (graded pairs) s n c.args.event seats v after.known after.paths.now) (omega arith) on,
    )

pub unreachable-requires-2 : goal.unreachable-requires-2
unreachable-requires-2 g c =
    let k = g.C.Cost.kind in
    let pairs = c.args.self.now.pairs in
    let seats = c.args.seats.now in
    let now = c.loop-turn.self in
    let same = c.size-turn-end.ensures in
    omega (
      arith,
      fewer_done k g.met.C.Cost.laws (graded pairs) pairs.size c.requires.solvable.bounded c.loop-turn._turn c.args.event (seat_in seats) (holder_in seats)
          (listed c.args.prices.now k.zero) (scanned_in now.known) (path_in k now.known now.paths.now) (finder_in now.known) c.loop-turn.invariant.1,
      c.loop-turn-test.false,
    )

pub returns-in_default-held : goal.returns-in_default-held
returns-in_default-held g c =
    let k = g.C.Cost.kind in
    let v = listed c.args.prices.now k.zero in
    let now = c.loop-turn.self in
    let same = c.loop-turn.invariant.0 in
    let near = subst (λ p. NearestPlace k p.size v (scanned_in now.known) (path_in k now.known now.paths.now) (Some c.in-Some.place)) same c.in-Some.ensures in
    record {
      found = record {
        scans = c.loop-turn._turn;
        searching = c.loop-turn.invariant.1;
        below = near.0;
        cost = near.1.0;
        nearest = near.1.1;
        free = ap or_none (listed_suc c.args.seats.now.holders None c.in-Some.place ∙ c.in_default-held.is);
      };
      pairs = same;
    }
