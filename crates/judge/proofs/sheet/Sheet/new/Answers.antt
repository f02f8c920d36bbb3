use Rattle.std.proofs.Common.{◌≡◌, ℕ, ◌*◌, List, replicate, vec_items, ap, ◌∙◌}
use Rattle.tables.specs.Limits.{max_size}
use Rattle.judge.specs.Judging.{lists}
use Rattle.judge.proofs.sheet.Sheet.new.Goals as goal

pub returns : goal.returns
returns g c =
    let C = g.row.C.Denot in
    let none = g.C.Cost.kind.zero in
    let times : ℕ → C → List C = λ n x. replicate n x in
    let numbers : vec_items c.in_ok-numbers.numbers ≡ replicate max_size 0 = c.in_ok-numbers.ensures in
    let events : vec_items c.in_ok-event_prices.event_prices ≡ times max_size none = c.in_ok-event_prices.ensures ∙ ap (times max_size) c.zero-zero.ensures in
    let prices : vec_items c.in_ok-number_prices.number_prices ≡ times max_size none = c.in_ok-number_prices.ensures ∙ ap (times max_size) c.zero-zero.ensures in
    let marks : vec_items c.in_ok-marks.marks ≡ replicate max_size 0 = c.in_ok-marks.ensures in
    let work : vec_items c.in_ok-work.work ≡ times (8 * max_size) none = c.in_ok-work.ensures ∙ ap (times (8 * max_size)) c.zero-zero.ensures in
    λ i. lists (numbers i) (events i) (prices i) (marks i) (work i)
