use Rattle.std.proofs.Common.{ap, sym, ◌∙◌, arith, rules}
use Rattle.job.specs.Numerals.{numeral, needless_zero}
use Rattle.job.proofs.Values.{value_read}
use Rattle.job.proofs.tokens.numeral.Numeral.value.Goals as goal

pub returns : goal.returns
returns c =
    let ran = c.try_fold.ensures.ran in
    let digits = ran.0 in
    let stopped_by = ran.1 in
    let given = ran.4 in
    let turns = ran.5 in
    let last = ran.6 in
    let same = c.iter.ensures.rest in
    let clean = ap needless_zero same ∙ sym (c.if-is_needless.ensures) in
    value_read (λ p. p.1) _ (λ p d q turn. search rules) _ digits stopped_by c.iter.result given.0 _ _ (ran.2, ran.3) c.try_fold.result (omega arith) given.1 given.2 turns last clean (λ d stop. search rules)
    ∙ ap numeral same
