use Rattle.std.proofs.Common.{ℕ, ◌+◌, ◌<◌, ◌≤◌, List, length, take, vec_items, sym, ap, ◌∙◌, subst, arith, rules}
use Rattle.std.proofs.lemmas.Result.{err_from_is_err_and}
use Rattle.judge.specs.Sheets.{sheet_lists}
use Rattle.watch.specs.Meaning.{ledger_of}
use Rattle.report.specs.Reports.{Reported, Kept}
use Rattle.report.specs.declared.Report.{Report}
use Rattle.report.proofs.Partly.{Partly, all_hits, all_counts, all_inside}
use Rattle.report.proofs.Rooms.{room_for}
use Rattle.report.proofs.Turns.{turned, no_turn, turn_goes_on}
use Rattle.report.proofs.Whole.{all_windows}
use Rattle.report.proofs.report_log.Goals as goal

pub returns-in_err-next-clause-reported : goal.returns-in_err-next-clause-reported
returns-in_err-next-clause-reported g c =
    let p = err_from_is_err_and c.from_residual-in_err-next.result c.from_residual-in_err-next.ensures.1 in
    rw (p.1, p.2) (no_turn (sheet_lists c.loop-fed.sheet) c.loop-fed.invariant.0 c.loop-fed.invariant.1 _ c.in_err-next.ensures.answer)

pub overflow_add-fed-in-loop-fed : goal.overflow_add-fed-in-loop-fed
overflow_add-fed-in-loop-fed g c =
    let at = turned (sheet_lists c.loop-fed.sheet) c.loop-fed.invariant.0 c.loop-fed.invariant.1 c.in_ok-next.next c.in_ok-next.ensures.answer in
    let fits = at.fits in
    search rules

pub added-counts-requires : goal.added-counts-requires
added-counts-requires g c =
    let at = turned (sheet_lists c.loop-fed.sheet) c.loop-fed.invariant.0 c.loop-fed.invariant.1 c.in_ok-next.next c.in_ok-next.ensures.answer in
    let few = c.loop-fed.invariant.0.few in
    let own = at.windows in
    let fits = at.fits in
    search rules

pub loop-fed-smaller : goal.loop-fed-smaller
loop-fed-smaller g c =
    let at = turned (sheet_lists c.loop-fed.sheet) c.loop-fed.invariant.0 c.loop-fed.invariant.1 c.in_ok-next.next c.in_ok-next.ensures.answer in
    let more : c.loop-fed.fed < length c.args.log.now = omega (arith, c.loop-fed-test.true) in
    omega (arith, at.feeds more, at.fits, more)

pub loop-fed-preserved : goal.loop-fed-preserved
loop-fed-preserved g c =
    let next = ledger_of g.T.TraceTable.means c.next_sheet.new.self in
    let fed = c.loop-fed.fed in
    let found = vec_items c.loop-fed.hits in
    let found' = vec_items c.keep.new.hits in
    let n = c.in_ok-next.next in
    let before = sheet_lists c.loop-fed.sheet in
    let after = sheet_lists c.next_sheet.new.sheet in
    let at = turned before c.loop-fed.invariant.0 c.loop-fed.invariant.1 n c.in_ok-next.ensures.answer in
    let done = c.in_ok-next.ensures in
    let kept : Kept (fed + n.fed) n.hit (take c.size-size.result after.numbers) found found' =
    subst (λ (ns : List ℕ). Kept (fed + n.fed) n.hit (take c.size-size.result ns) found found') c.deref.ensures.value c.in_ok-keep.ensures.kept in
    let partly = turn_goes_on before c.loop-fed.invariant.0 found' after c.size-size.result c.size-size.ensures at.free next n at.walk_is done.after done.left kept in
    let start = ledger_of g.T.TraceTable.means c.args.watch.now in (
      subst (λ (counts : ℕ × ℕ × ℕ). Partly g.T.Value.Cost.kind start next c.args.log.now (fed + n.fed) found' counts) (sym c.added-counts.ensures) partly,
      ap (room_for start.table.size) done.lengths ∙ c.loop-fed.invariant.1,
    )

pub returns-clause-windows : goal.returns-clause-windows
returns-clause-windows g c =
    let k = g.T.Value.Cost.kind in
    let start = ledger_of g.T.TraceTable.means c.args.watch.now in
    let log = c.args.log.now in
    let partly = c.loop-fed.invariant.0 in
    let end : length log ≤ c.loop-fed.fed = omega (arith, c.loop-fed-test.false) in
    let report : Report g.row.T-Value.Denot = record { hits = c.loop-fed.hits; counts = c.loop-fed.counts } in
    let reported : Reported k start log report = record { hits = all_hits partly end; counts = all_counts partly end; numbers = partly.numbers } in
    λ empty.
    all_windows k start log empty (all_inside partly end)
    g.met.T.Value.Cost.laws (g.met.T.TraceTable.sound c.args.watch.now.table.table).places_from report reported
