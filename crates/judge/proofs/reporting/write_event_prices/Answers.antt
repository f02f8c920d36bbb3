use Rattle.std.proofs.Common.{◌≡◌, ◌-◌, ◌<◌, length, get_or, arith}
use Rattle.std.proofs.lemmas.List.{get_or_read, length-take-le}
use Rattle.std.proofs.lemmas.Slice.{drop-append-drop}
use Rattle.judge.specs.Grades.{event_price}
use Rattle.judge.specs.Rows.{listed}
use Rattle.judge.specs.Settling.{graded}
use Rattle.judge.proofs.Reports.{number_within, number_up, price_at}
use Rattle.judge.proofs.Written.{written_more, written_front}
use Rattle.judge.proofs.reporting.write_event_prices.Goals as goal

pub overflow_sub-place : goal.overflow_sub-place
overflow_sub-place g c =
    let all = length-take-le c.size.result c.args.event_prices.now (omega (arith, c.requires.many)) in
    (number_within c.args.pairs.now.size c.args.numbers.now c.requires.numbers c.loop-event.event (omega (arith, c.loop-event-test.true))).0

pub grade-grade-requires : goal.grade-grade-requires
grade-grade-requires g c =
    let all = length-take-le c.size.result c.args.event_prices.now (omega (arith, c.requires.many)) in
    let w = number_within c.args.pairs.now.size c.args.numbers.now c.requires.numbers c.loop-event.event (omega (arith, c.loop-event-test.true)) in
    record { event = omega (arith, c.loop-event-test.true); place = omega arith }

pub loop-event-preserved : goal.loop-event-preserved
loop-event-preserved g c =
    let k = g.C.Cost.kind in
    let s = c.args.pairs.now.size in
    let i = c.loop-event.event in
    let ns = c.args.numbers.now in
    let prices = c.args.number_prices.now in
    let grades = graded c.args.pairs.now in
    let all = length-take-le c.size.result c.args.event_prices.now (omega (arith, c.requires.many)) in
    let lt : i < s = omega (arith, c.loop-event-test.true) in
    let w = number_within s ns c.requires.numbers i lt in
    let in-prices : get_or ns i 0 - 1 < length prices = omega (arith, w, c.requires.many) in
    let price = get_or_read prices (get_or ns i 0 - 1) c.index-number_prices-place.result in-prices c.index-number_prices-place.is k.zero in
    written_more (λ r x. x ≡ event_price k grades ns (listed prices k.zero) r) c.loop-event.price-items i k.zero c.minus.result (omega (arith, c.loop-event-test.true)) c.loop-event.invariant
    (price_at k grades ns prices i c.in-Open.cost c.index-number_prices-place.result c.minus.result (number_up s ns c.requires.numbers i lt) c.in-Open.ensures price c.minus.ensures)

pub returns : goal.returns
returns g c =
    let k = g.C.Cost.kind in
    let s = c.size.result in
    let old = c.args.event_prices.now in
    let items = c.loop-event.price-items in
    let all = length-take-le s old (omega (arith, c.requires.many)) in
    let long : length items ≡ s = omega arith in
    record {
      prices = λ r w. written_front (λ r x. x ≡ event_price k (graded c.args.pairs.now) c.args.numbers.now (listed c.args.number_prices.now k.zero) r) s c.loop-event.event items old k.zero long (omega (arith, c.loop-event-test.false)) c.loop-event.invariant r (omega (arith, w));
      rest = drop-append-drop s old items c.args.pairs.now.size (omega arith) long;
    }
