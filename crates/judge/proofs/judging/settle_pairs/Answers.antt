use Rattle.std.proofs.Common.{◌≡◌, ℕ, ◌≤◌, length, take, drop, Some, None, ◌∙◌, subst, arith, rules}
use Rattle.tables.specs.Table.{Within}
use Rattle.judge.specs.Settling.{graded}
use Rattle.judge.specs.Rows.{listed, listed_cost}
use Rattle.judge.proofs.Certificates.{same_beyond, numbers_within, numbers_open, certificate, renumbering_open, open_same, never_closed}
use Rattle.judge.proofs.judging.settle_pairs.Goals as goal

pub write_event_prices-requires : goal.write_event_prices-requires
write_event_prices-requires g c =
    let k = g.C.Cost.kind in
    let s = c.args.pairs.now.size in
    let grades = graded c.args.pairs.now in
    let v = listed_cost k c.settle.new.prices in
    let numbers : (r : ℕ) → Within s r → Some (listed c.write_numbers.new.numbers 0 r) ≡ listed c.settle.new.seats.numbers None r = λ r w. c.write_numbers.ensures.numbers r (omega (arith, w)) in
    let seated = c.settle.ensures.seated in
    let all = c.settle.ensures.all in
    record {
      many = (search rules, (search rules, search rules));
      numbers = numbers_within k grades s c.settle.new.seats v seated all c.write_numbers.new.numbers numbers;
      allowed = numbers_open k grades s c.settle.new.seats v seated all c.write_numbers.new.numbers numbers;
    }

pub unreachable-requires : goal.unreachable-requires
unreachable-requires g c =
    let k = g.C.Cost.kind in
    let s = c.args.pairs.now.size in
    let grades = graded c.args.pairs.now in
    let v = listed_cost k c.settle.new.prices in
    let numbers : (r : ℕ) → Within s r → Some (listed c.write_numbers.new.numbers 0 r) ≡ listed c.settle.new.seats.numbers None r = λ r w. c.write_numbers.ensures.numbers r (omega (arith, w)) in
    let long : s ≤ length c.write_numbers.new.numbers = search rules in
    let cert = certificate k grades s c.settle.new.seats v c.settle.ensures.seated c.settle.ensures.all c.write_numbers.new.numbers numbers g.met.C.Cost.laws c.requires.solvable.bounded long c.write_event_prices.new.event_prices c.write_event_prices.ensures.prices in
    never_closed _ (c.in_default.ensures ∙ renumbering_open k grades (take s c.write_numbers.new.numbers) cert.1)

pub returns : goal.returns
returns g c =
    let k = g.C.Cost.kind in
    let s = c.args.pairs.now.size in
    let grades = graded c.args.pairs.now in
    let v = listed_cost k c.settle.new.prices in
    let numbers : (r : ℕ) → Within s r → Some (listed c.write_numbers.new.numbers 0 r) ≡ listed c.settle.new.seats.numbers None r = λ r w. c.write_numbers.ensures.numbers r (omega (arith, w)) in
    let long : s ≤ length c.write_numbers.new.numbers = search rules in
    let cert = certificate k grades s c.settle.new.seats v c.settle.ensures.seated c.settle.ensures.all c.write_numbers.new.numbers numbers g.met.C.Cost.laws c.requires.solvable.bounded long c.write_event_prices.new.event_prices c.write_event_prices.ensures.prices in
    let kept : length c.settle.new.prices ≡ length c.args.number_prices.now = search rules in
    record {
      certified = cert;
      cost = open_same _ _ (c.in-Open.ensures ∙ renumbering_open k grades (take s c.write_numbers.new.numbers) cert.1);
      beyond = (subst (λ (n : ℕ). drop n c.write_numbers.new.numbers ≡ drop n c.args.numbers.now) c.size.ensures c.write_numbers.ensures.rest, c.write_event_prices.ensures.rest, same_beyond k s c.args.number_prices.now c.settle.new.prices kept c.settle.ensures.beyond);
    }

pub renumbering_cost-requires : goal.renumbering_cost-requires
renumbering_cost-requires g c =
    let k = g.C.Cost.kind in
    let s = c.args.pairs.now.size in
    let numbers : (r : ℕ) → Within s r → Some (listed c.write_numbers.new.numbers 0 r) ≡ listed c.settle.new.seats.numbers None r = λ r w. c.write_numbers.ensures.numbers r (omega (arith, w)) in
    record {
      many = search rules;
      numbers = numbers_within k (graded c.args.pairs.now) s c.settle.new.seats (listed_cost k c.settle.new.prices) c.settle.ensures.seated c.settle.ensures.all c.write_numbers.new.numbers numbers;
    }
