use Rattle.std.proofs.Common.{Ok, Err, sym, ap, ◌∙◌, arith}
use Rattle.job.specs.Runs.{of_sort, wrong}
use Rattle.job.proofs.Scans.{run_good, run_bad, run_clean, unspoiled_low}
use Rattle.job.proofs.Unreading.{all_digits}
use Rattle.job.proofs.tokens.Tokens.next_token.Goals as goal

pub returns-in-Some-spoiled-clause-next : goal.returns-in-Some-spoiled-clause-next
returns-in-Some-spoiled-clause-next c =
    let bad = run_bad c.in-Some.place c.in-Some.run'.now c.of-sort.result c.spoiled.result c.of-sort.ensures c.spoiled.ensures.value c.in-Some-spoiled.n c.in-Some-spoiled.is in
    (_, _, c.in-Some.ensures.some, bad ∙ ap (λ x. Err x.place) (sym c.at.ensures), ap (λ x. x.number) c.at.ensures)

pub ascii-requires : goal.ascii-requires
ascii-requires c =
    let clean = run_clean c.in-Some.place c.in-Some.run'.now c.of-sort.result c.spoiled.result c.of-sort.ensures c.spoiled.ensures.value c.in_default-spoiled.is in
    unspoiled_low c.of-sort.result c.in-Some.place c.in-Some.run'.now clean

pub invariant_of-result : goal.invariant_of-result
invariant_of-result c =
    let place = c.in-Some.place in
    let run = c.in-Some.run'.now in
    let clean = run_clean place run c.of-sort.result c.spoiled.result c.of-sort.ensures c.spoiled.ensures.value c.in_default-spoiled.is in
    record {
      some = omega (arith, c.in-Some.ensures.bytes);
      all = all_digits place run (ap (λ s. wrong (of_sort s) place run) (sym c.in-Digit.is) ∙ clean);
    }

pub returns-in-Letter-clause-next : goal.returns-in-Letter-clause-next
returns-in-Letter-clause-next c =
    let good = run_good c.in-Some.place c.in-Some.run'.now c.of-sort.result c.spoiled.result c.of-sort.ensures c.spoiled.ensures.value c.in_default-spoiled.is in
    rw c.ascii.ensures (c.in-Some.ensures.some, good ∙ ap Ok c.in-Letter.is, c.in-Some.ensures.on)

pub returns-in-Digit-clause-next : goal.returns-in-Digit-clause-next
returns-in-Digit-clause-next c =
    let good = run_good c.in-Some.place c.in-Some.run'.now c.of-sort.result c.spoiled.result c.of-sort.ensures c.spoiled.ensures.value c.in_default-spoiled.is in
    (c.in-Some.ensures.some, good ∙ ap Ok c.in-Digit.is, c.in-Some.ensures.on)
