use Rattle.std.proofs.Common.{◌≡◌, ℕ, ◌*◌, ◌≤◌, true, length, sym, mul-le-mul, subst, arith}
use Rattle.std.proofs.lemmas.Bool.Decides.{nat_tests}
use Rattle.judge.specs.Judging.{has_room}
use Rattle.judge.proofs.judging.Judge.judge.Goals as goal

pub settle_window-verdict-requires : goal.settle_window-verdict-requires
settle_window-verdict-requires g c =
    let sized = c.size-size.ensures in
    let small = (g.met.T.TraceTable.sound c.args.table.now).size_to in
    let roomy : has_room c.size-size.result (length c.args.numbers.now) (length c.args.event_prices.now) (length c.args.number_prices.now) (length c.args.marks.now) (length c.args.work.now) ≡ true = sym c.if-not-is_roomy.ensures in
    let little : c.size-size.result ≤ 32 = omega arith in
    let most : c.size-size.result * c.size-size.result ≤ 1024 = mul-le-mul little little in
    let whole = c.args.self.now.whole in
    let len = c.as_mut_slice-grades.ensures.len in
    let square : c.size-size.result * c.size-size.result ≤ length c.as_mut_slice-grades.result.now = omega arith in
    record {
      grid = record { small = small; whole = subst (λ (n : ℕ). n * n ≤ length c.as_mut_slice-grades.result.now) sized square };
      room = record { numbers = grind (arith, nat_tests); event_prices = grind (arith, nat_tests); number_prices = grind (arith, nat_tests); marks = grind (arith, nat_tests); work = grind (arith, nat_tests) };
    }
