use Rattle.std.proofs.Common.{◌+◌, ◌-◌, ◌<◌, take, arith}
use Rattle.std.proofs.lemmas.List.{length-take-le}
use Rattle.tables.specs.declared.grade.Grade.TheVariants.{Closed, Open}
use Rattle.judge.specs.Settling.{graded}
use Rattle.judge.proofs.Reports.{summed_none, summed_more, summed_all, closed_at, grade_taken}
use Rattle.judge.proofs.reporting.renumbering_cost.Goals as goal

pub loop-event-init : goal.loop-event-init
loop-event-init g c =
    let long = length-take-le c.args.pairs.now.size c.args.numbers.now c.requires.many in
    summed_none g.C.Cost.kind (graded c.args.pairs.now) (take c.args.pairs.now.size c.args.numbers.now) _ c.zero-sum.result (omega arith) c.zero-sum.ensures

pub returns-in_default : goal.returns-in_default
returns-in_default g c =
    let grades = graded c.args.pairs.now in
    let h : c.loop-event.event - 1 < c.args.pairs.now.size = omega arith in
    let long = length-take-le c.args.pairs.now.size c.args.numbers.now c.requires.many in
    closed_at g.C.Cost.kind grades (take c.args.pairs.now.size c.args.numbers.now) (c.loop-event.event - 1) (omega arith)
    (grade_taken c.args.pairs.now.size c.args.numbers.now c.requires.numbers (c.loop-event.event - 1) h grades (c.loop-event.event - 1 + 1) Closed c.in_default.ensures)

pub loop-event-preserved : goal.loop-event-preserved
loop-event-preserved g c =
    let grades = graded c.args.pairs.now in
    let h : c.loop-event.event - 1 < c.args.pairs.now.size = omega arith in
    let long = length-take-le c.args.pairs.now.size c.args.numbers.now c.requires.many in
    summed_more g.C.Cost.kind grades (take c.args.pairs.now.size c.args.numbers.now) c.loop-event.event (c.loop-event.event - 1) c.in-Open.cost c.loop-event.sum c.plus-sum.result
    (omega arith) (omega arith)
    (grade_taken c.args.pairs.now.size c.args.numbers.now c.requires.numbers (c.loop-event.event - 1) h grades (c.loop-event.event - 1 + 1) (Open c.in-Open.cost) c.in-Open.ensures)
    c.plus-sum.ensures c.loop-event.invariant

pub returns : goal.returns
returns g c =
    summed_all g.C.Cost.kind (graded c.args.pairs.now) (take c.args.pairs.now.size c.args.numbers.now) c.loop-event.event c.loop-event.sum (omega arith) c.loop-event.invariant
