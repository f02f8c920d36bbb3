use Rattle.std.proofs.Common.{◌+◌, option_map, Some, None, Ok, sym, ap, ◌∙◌, arith}
use Rattle.judge.specs.Judging.{lists}
use Rattle.watch.specs.Meaning.{ledger_of}
use Rattle.watch.specs.Walking.{walk}
use Rattle.watch.proofs.Nexts.{answer_is, outside_at}
use Rattle.watch.proofs.Watch.next.Goals as goal

pub returns-in-Some-clause-answer : goal.returns-in-Some-clause-answer
returns-in-Some-clause-answer g c =
    let l = ledger_of g.T.TraceTable.means c.args.self.now in
    let before = lists c.args.numbers.now c.args.event_prices.now c.args.number_prices.now c.args.marks.now c.args.work.now in
    let p = c.args.position in
    let s = c.size-size.result in
    let events = c.events_from-events.result.now in
    let found = ap (option_map (λ n. p + n)) c.in-Some.ensures ∙ outside_at s p events in
    sym (answer_is g.T.Value.Cost.kind l c.args.log.now p before s events (Some (p + c.in-Some.i)) (omega arith) (omega arith) c.size-size.ensures (sym c.if-not-is_roomy.ensures) c.events_from-events.ensures found)

pub returns-in-None-clause-answer : goal.returns-in-None-clause-answer
returns-in-None-clause-answer g c =
    let k = g.T.Value.Cost.kind in
    let l = ledger_of g.T.TraceTable.means c.args.self.now in
    let before = lists c.args.numbers.now c.args.event_prices.now c.args.number_prices.now c.args.marks.now c.args.work.now in
    let p = c.args.position in
    let s = c.size-size.result in
    let events = c.events_from-events.result.now in
    let none = ap (option_map (λ n. p + n)) c.in-None.ensures ∙ outside_at s p events in
    let walked = c.walk.ensures.answer ∙ ap (walk k l) c.events_from-events.ensures in
    ap Ok walked
    ∙ sym (answer_is k l c.args.log.now p before s events None (omega arith) (omega arith) c.size-size.ensures (sym c.if-not-is_roomy.ensures) c.events_from-events.ensures none)
