use Rattle.std.proofs.Common.{◌≡◌, ℕ, true, false, sym, refl, ap, ◌∙◌, subst, arith}
use Rattle.tables.specs.Table.{Within, pair_at}
use Rattle.judge.specs.Allowed.{is_open}
use Rattle.judge.specs.BitRows.{open_in, stands_in}
use Rattle.judge.specs.Marking.{Written}
use Rattle.judge.specs.Marks.{events_in, Short}
use Rattle.judge.specs.Matching.{Renumbered}
use Rattle.judge.specs.Settling.{graded}
use Rattle.judge.specs.Judging.{lists}
use Rattle.judge.proofs.Windows.{solvable, window_found, window_within, window_over, within_exact, over_exact, window_blocked, window_none, none_exact}
use Rattle.judge.proofs.judging.settle_window.Goals as goal

pub returns-in-Some : goal.returns-in-Some
returns-in-Some g c =
    let k = g.C.Cost.kind in
    let laws = g.met.C.Cost.laws in
    let t = g.T.TraceTable.means c.args.table.now in
    let sound = g.met.T.TraceTable.sound c.args.table.now in
    let s = c.read-pairs.result.size in
    let pairs = graded c.read-pairs.result in
    let read = c.read-pairs.ensures.graded in
    let before = lists c.args.numbers.now c.args.event_prices.now c.args.number_prices.now c.args.marks.now c.args.work.now in
    let after = lists c.args.numbers.now c.args.event_prices.now c.args.number_prices.now c.write_marks.new.marks c.args.work.now in
    let set = c.in-Some.set in
    let short = subst (λ (n : ℕ). Short (open_in c.open_rows.result) n (events_in n (stands_in set))) c.size-size.ensures c.in-Some.ensures in
    let written = subst (λ (n : ℕ). Written set n c.args.marks.now c.write_marks.new.marks) c.size-size.ensures c.write_marks.ensures in
    let rows = c.open_rows.result in
    let agrees : (r n : ℕ) → Within s r → Within s n → open_in c.open_rows.result r n ≡ is_open (pair_at t r n) = λ r n w v. c.open_rows.ensures.rows r n w v ∙ ap is_open (read r n w v) in
    record {
      verdict = window_none k laws t sound s c.read-pairs.ensures.size pairs read rows agrees c.in-Some.set before after short written c.args.bound.now;
      left = window_blocked k laws t sound s c.read-pairs.ensures.size pairs read rows agrees c.in-Some.set before after short written refl refl refl;
      exact = none_exact k laws t sound s c.read-pairs.ensures.size pairs read rows agrees c.in-Some.set before after short written c.args.bound.now;
    }

pub settle_pairs-cost-requires : goal.settle_pairs-cost-requires
settle_pairs-cost-requires g c =
    let k = g.C.Cost.kind in
    let laws = g.met.C.Cost.laws in
    let t = g.T.TraceTable.means c.args.table.now in
    let sound = g.met.T.TraceTable.sound c.args.table.now in
    let s = c.read-pairs.result.size in
    let read = c.read-pairs.ensures.graded in
    let agrees : (r n : ℕ) → Within s r → Within s n → open_in c.open_rows.result r n ≡ is_open (pair_at t r n) = λ r n w v. c.open_rows.ensures.rows r n w v ∙ ap is_open (read r n w v) in
    let same = c.read-pairs.ensures.size in
    let roomy = c.requires.room in
    let work = roomy.work in
    record {
      solvable = solvable k laws t sound s same (graded c.read-pairs.result) read c.open_rows.result agrees (subst (Renumbered (open_in c.open_rows.result)) c.size-size.ensures c.in_default.ensures);
      room = (omega (arith, roomy.numbers), omega (arith, roomy.event_prices), omega (arith, roomy.number_prices), omega arith);
    }

pub returns-then-at_most : goal.returns-then-at_most
returns-then-at_most g c =
    let k = g.C.Cost.kind in
    let laws = g.met.C.Cost.laws in
    let t = g.T.TraceTable.means c.args.table.now in
    let sound = g.met.T.TraceTable.sound c.args.table.now in
    let s = c.read-pairs.result.size in
    let pairs = graded c.read-pairs.result in
    let read = c.read-pairs.ensures.graded in
    let before = lists c.args.numbers.now c.args.event_prices.now c.args.number_prices.now c.args.marks.now c.args.work.now in
    let after = lists c.settle_pairs-cost.new.numbers c.settle_pairs-cost.new.event_prices c.settle_pairs-cost.new.number_prices c.args.marks.now c.settle_pairs-cost.new.work in
    let did = c.settle_pairs-cost.ensures in
    let le : k.at_most c.settle_pairs-cost.result c.args.bound.now ≡ true = sym c.if-at_most.ensures in
    record {
      verdict = window_within k laws t sound s c.read-pairs.ensures.size pairs read before after c.settle_pairs-cost.result did.certified did.cost c.args.bound.now le;
      left = window_found k laws t sound s c.read-pairs.ensures.size pairs read before after c.settle_pairs-cost.result did.certified did.cost did.beyond.0 did.beyond.1 did.beyond.2 refl;
      exact = within_exact k laws t sound s c.read-pairs.ensures.size pairs read before after c.settle_pairs-cost.result did.certified did.cost c.args.bound.now le;
    }

pub returns-else-at_most : goal.returns-else-at_most
returns-else-at_most g c =
    let k = g.C.Cost.kind in
    let laws = g.met.C.Cost.laws in
    let t = g.T.TraceTable.means c.args.table.now in
    let sound = g.met.T.TraceTable.sound c.args.table.now in
    let s = c.read-pairs.result.size in
    let pairs = graded c.read-pairs.result in
    let read = c.read-pairs.ensures.graded in
    let before = lists c.args.numbers.now c.args.event_prices.now c.args.number_prices.now c.args.marks.now c.args.work.now in
    let after = lists c.settle_pairs-cost.new.numbers c.settle_pairs-cost.new.event_prices c.settle_pairs-cost.new.number_prices c.args.marks.now c.settle_pairs-cost.new.work in
    let did = c.settle_pairs-cost.ensures in
    let gt : k.at_most c.settle_pairs-cost.result c.args.bound.now ≡ false = sym c.if-at_most.ensures in
    record {
      verdict = window_over k laws t sound s c.read-pairs.ensures.size pairs read before after c.settle_pairs-cost.result did.certified did.cost c.args.bound.now gt;
      left = window_found k laws t sound s c.read-pairs.ensures.size pairs read before after c.settle_pairs-cost.result did.certified did.cost did.beyond.0 did.beyond.1 did.beyond.2 refl;
      exact = over_exact k laws t sound s c.read-pairs.ensures.size pairs read before after c.settle_pairs-cost.result did.certified did.cost c.args.bound.now gt;
    }
