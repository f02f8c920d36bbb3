use Rattle.std.proofs.Common.{◌≡◌, ℕ, ◌+◌, true, length, is_some, Some, None, Option, sym, refl, ◌∙◌, subst, arith}
use Rattle.std.proofs.lemmas.Bool.{false≢true}
use Rattle.std.proofs.lemmas.List.{length-take-le}
use Rattle.std.proofs.lemmas.Slice.{drop-append-drop}
use Rattle.judge.specs.Rows.{listed}
use Rattle.judge.proofs.Written.{listed_next, written_more, written_front}
use Rattle.judge.proofs.reporting.write_numbers.Goals as goal

seated : (o : Option ℕ) → is_some o ≡ true → ((n : ℕ) → o ≡ Some n → ⊥) → ⊥
seated None e f = false≢true e
seated (Some n) e f = f n refl

pub unreachable-requires : goal.unreachable-requires
unreachable-requires c =
    let all = length-take-le c.args.size c.args.numbers.now c.requires.size.1 in
    seated _ (subst (λ (o : Option ℕ). is_some o ≡ true) (listed_next c.args.seats.now None c.loop-event.event) (c.requires.seated (c.loop-event.event + 1) (omega (arith, c.loop-event-test.true)))) c.in_default.not-Some

pub loop-event-preserved : goal.loop-event-preserved
loop-event-preserved c =
    written_more (λ r n. Some n ≡ listed c.args.seats.now None r) c.loop-event.number-items c.loop-event.event 0 c.in-Some.seat (omega (arith, c.loop-event-test.true)) c.loop-event.invariant
    (sym c.in-Some.is ∙ sym (listed_next c.args.seats.now None c.loop-event.event))

pub returns : goal.returns
returns c =
    let items = c.loop-event.number-items in
    let all = length-take-le c.args.size c.args.numbers.now c.requires.size.1 in
    let long : length items ≡ c.args.size = omega arith in
    record {
      numbers = written_front (λ r n. Some n ≡ listed c.args.seats.now None r) c.args.size c.loop-event.event items c.args.numbers.now 0 long (omega arith) c.loop-event.invariant;
      rest = drop-append-drop c.args.size c.args.numbers.now items c.args.size (omega arith) long;
    }
