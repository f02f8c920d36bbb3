use Rattle.std.proofs.Common.{◌≡◌, [], get_or, sym, ap, ◌∙◌, arith}
use Rattle.std.proofs.lemmas.List.Sums.{fold_more}
use Rattle.tables.specs.Summing.{summing}
use Rattle.tables.specs.Table.{taken}
use Rattle.shown.specs.declared.worked.TheConstants.{SIZE, TRACE, EVENTS}
use Rattle.shown.proofs.worked.full_table.Goals as goal

pub loop-event-init : goal.loop-event-init
loop-event-init g c = c.in_ok-table.ensures.table

pub loop-event-preserved : goal.loop-event-preserved
loop-event-preserved g c =
    let start = summing g.P.Value.Cost.kind (g.P.Pricing.prices c.args.pricing) SIZE TRACE [] in
    c.take.ensures.after ∙ ap (λ t. taken t (get_or EVENTS c.loop-event.event-index 0)) c.loop-event.invariant ∙ sym (fold_more taken start EVENTS c.loop-event.event-index 0 (omega arith))

pub returns : goal.returns
returns g c =
    let all : c.loop-event.event-index ≡ 10 = omega arith in
    rw all at c.loop-event.invariant
