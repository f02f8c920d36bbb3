use Rattle.std.proofs.Common.{◌≡◌, ℕ, List, [], ◌+◌, ◌++◌, get_or, refl, sym, ap, ◌∙◌, codes, rules, arith, append_assoc}
use Rattle.std.specs.Fmt.{decimal, signed_decimal}
use Rattle.std.proofs.Output.{writes_in_calls_nil, has_written_append, has_written_of_eq}
use Rattle.std.proofs.lemmas.List.{drop_all}
use Rattle.tables.specs.Table.{pair_at}
use Rattle.shown.proofs.Texts.{priced_closed, priced_open}
use Rattle.shown.proofs.worked.PricedDisplay.fmt.Goals as goal

pub loop-place-init : goal.loop-place-init
loop-place-init g c plain = ([], record { wrote = writes_in_calls_nil _ _; plain = plain }, rw c.zero-total.ensures refl)

pub loop-place-preserved : goal.loop-place-preserved
loop-place-preserved g c plain =
    let grade = pair_at (g.T.TraceTable.means c.args.self.now.table.now) in
    let ns = c.args.self.now.numbers in
    let i = c.loop-place.place in
    let n = get_or ns i 0 in
    let so_far = c.loop-place.invariant plain in
    let line : List ℕ = codes "event " ++ (decimal (i + 1) ++ (codes " as " ++ (decimal n ++ (codes ": " ++ (signed_decimal c.in-Open.cost.value ++ codes "\n"))))) in
    let opened : grade (i + 1) n ≡ _ = sym c.pair.ensures ∙ c.in-Open.is in (
      so_far.0 ++ line,
      has_written_append _ _ _ _ _ _ so_far.1 (c.in_ok-write.ensures.writes so_far.1.plain (search rules)),
      rw c.plus-total.ensures (append_assoc so_far.0 line _ ∙ ap (λ t. so_far.0 ++ t) (sym (priced_open grade c.loop-place.total c.in-Open.cost i ns (omega arith) opened)) ∙ so_far.2),
    )

pub returns-in_default-clause-writes : goal.returns-in_default-clause-writes
returns-in_default-clause-writes g c plain ok =
    let grade = pair_at (g.T.TraceTable.means c.args.self.now.table.now) in
    let ns = c.args.self.now.numbers in
    let i = c.loop-place.place in
    let so_far = c.loop-place.invariant plain in
    let closed : grade (i + 1) (get_or ns i 0) ≡ _ = sym c.pair.ensures ∙ c.in_default.is in
    has_written_of_eq _ _ _ _ _ (ap (λ t. so_far.0 ++ t) (priced_closed grade c.loop-place.total i ns (omega arith) closed) ∙ so_far.2)
    (has_written_append _ _ _ _ _ _ so_far.1 (c.write.ensures.writes so_far.1.plain ok))

pub returns-clause-writes : goal.returns-clause-writes
returns-clause-writes g c plain ok =
    let so_far = c.loop-place.invariant plain in
    has_written_of_eq _ _ _ _ _ (rw (drop_all c.loop-place.place c.args.self.now.numbers (omega arith)) at so_far.2)
    (has_written_append _ _ _ _ _ _ so_far.1 (c.write-2.ensures.writes so_far.1.plain ok))
