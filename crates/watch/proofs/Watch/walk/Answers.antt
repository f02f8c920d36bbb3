use Rattle.std.proofs.Common.{get_or, Some, ap, ◌∙◌, arith}
use Rattle.judge.specs.Judging.{lists}
use Rattle.watch.specs.Meaning.{ledger_of}
use Rattle.watch.proofs.Walks.{more_ledger, short_goes_on, miss_goes_on, blocked_goes_on, hit_left, room_stays}
use Rattle.watch.proofs.Watch.walk.Goals as goal
use Rattle.watch.proofs.Watch.walk.Goals.{in-None, in-Some-Over, in-Some-None}

pub returns-in-Some-Within-clause-after : goal.returns-in-Some-Within-clause-after
returns-in-Some-Within-clause-after g c =
    let came = c.loop-i.invariant.0 in
    let done = c.judge_after.ensures in
    let next = ledger_of g.T.TraceTable.means c.judge_after.new.self in
    let after = lists c.judge_after.new.numbers c.judge_after.new.event_prices c.judge_after.new.number_prices c.judge_after.new.marks c.judge_after.new.work in
    more_ledger came c.loop-i-test.true c.judge_after.result done.outcome next done.after after done.left

pub returns-in-Some-Within-clause-left : goal.returns-in-Some-Within-clause-left
returns-in-Some-Within-clause-left g c =
    let came = c.loop-i.invariant.0 in
    let done = c.judge_after.ensures in
    let next = ledger_of g.T.TraceTable.means c.judge_after.new.self in
    let after = lists c.judge_after.new.numbers c.judge_after.new.event_prices c.judge_after.new.number_prices c.judge_after.new.marks c.judge_after.new.work in
    let hit = c.in-Some-Within.is ∙ ap Some c.in-Some-Within.field-0-is in
    hit_left came c.loop-i-test.true c.judge_after.result done.outcome next done.after after done.left c.in-Some-Within.cost hit

pub loop-i-preserved : goal.loop-i-preserved
loop-i-preserved g c =
    let came = c.loop-i.invariant.0 in
    let inside = c.loop-i-test.true in
    let done = c.judge_after.ensures in
    let x = c.judge_after.result in
    let here = ledger_of g.T.TraceTable.means c.loop-i.self in
    let next = ledger_of g.T.TraceTable.means c.judge_after.new.self in
    let between = lists c.loop-i.numbers c.loop-i.event_prices c.loop-i.number_prices c.loop-i.marks c.loop-i.work in
    let after = lists c.judge_after.new.numbers c.judge_after.new.event_prices c.judge_after.new.number_prices c.judge_after.new.marks c.judge_after.new.work in
    let few = c.loop-i.invariant.2 in
    let room = room_stays here next (get_or c.args.events.now c.loop-i.i 0) between after done.after c.loop-i.invariant.1 (omega arith) (omega arith) (omega arith) (omega arith) (omega arith) in
    elim c.match-judge_after.branch [
      | in-None w ↦ (rw (w.over-is, w.none-is) (short_goes_on came inside x done.outcome next done.after after done.left w.in-None.is), room, omega (arith, w.over-is, w.none-is))
      | in-Some-Over w ↦ (rw (w.over-is, w.none-is) (miss_goes_on came inside x done.outcome next done.after after done.left w.in-Some-Over._cost (w.in-Some-Over.is ∙ ap Some w.in-Some-Over.field-0-is)), room, omega (arith, w.over-is, w.none-is))
      | in-Some-None w ↦ (rw (w.over-is, w.none-is) (blocked_goes_on came inside x done.outcome next done.after after done.left (w.in-Some-None.is ∙ ap Some w.in-Some-None.field-0-is)), room, omega (arith, w.over-is, w.none-is))
    ]
