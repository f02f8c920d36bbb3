use Rattle.std.proofs.Common.{length, ap, ◌∙◌}
use Rattle.judge.specs.Judging.{lists}
use Rattle.watch.specs.Meaning.{ledger_of}
use Rattle.watch.specs.Walking.{outcome}
use Rattle.watch.proofs.Outcomes.{ok_outcome}
use Rattle.watch.proofs.Walks.{room_stays}
use Rattle.watch.proofs.Watch.judge_after.Goals as goal

pub returns-clause-outcome : goal.returns-clause-outcome
returns-clause-outcome g c =
    let k = g.T.Value.Cost.kind in
    let entry = ledger_of g.T.TraceTable.means c.args.self.now in
    let fed = ledger_of g.T.TraceTable.means c.feed.new.self in
    let before = lists c.args.numbers.now c.args.event_prices.now c.args.number_prices.now c.args.marks.now c.args.work.now in
    let next = c.feed.ensures.after in
    let room = room_stays entry fed c.args.event before before next c.requires.room (λ i. length before.numbers) (λ i. length before.event_prices) (λ i. length before.number_prices) (λ i. length before.marks) (λ i. length before.work) in
    c.ok.ensures.value ∙ ok_outcome k fed before room c.judge.result c.judge.ensures.right.answer ∙ ap (outcome k) next
