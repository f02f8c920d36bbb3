use Rattle.std.proofs.Common.{◌≡◌, ℕ, ◌<◌, true, false, eqb, length, is_some, Some, None, Option, sym, ◌∙◌, refl, arith, rules}
use Rattle.std.specs.Option.{option_eq}
use Rattle.tables.specs.Pins.{pins_in, pins_to, is_taken}
use Rattle.tables.specs.Table.{within}
use Rattle.tables.proofs.Pinned.{searched, pin_meets, pin_stays, pins_set, pin_goes, pin_adds}
use Rattle.tables.proofs.pinning.Pinning.pin.Goals as goal

same : (c : ℕ) (p : Option ℕ) → option_eq eqb p (Some c) ≡ pins_to c p
same c None = refl
same c (Some d) = refl

pub returns-then-contains : goal.returns-then-contains
returns-then-contains c =
    let top = c.min-top.result in
    let pins = pins_in c.self.inside.pins in
    let event : within top c.args.event ≡ true = sym c.if-not-is_within.ensures in
    let number : within top c.args.number ≡ true = sym c.if-not-is_within-2.ensures in
    let unpinned : is_some (pins c.args.event) ≡ false = sym c.if-is_some.ensures in
    let taken : is_taken top pins c.args.number ≡ true = sym (searched _ c.args.number (same c.args.number) c.self.inside.pins _ top (omega arith) (search rules)) ∙ sym c.contains.ensures.value ∙ c.if-contains.true in
    rw (← c.min-top.ensures, ← c.self.view_is) (record {
      answer = sym (pin_meets top pins c.args.event c.args.number event number unpinned taken);
      after = sym (pin_stays top pins c.args.event c.args.number event number unpinned taken);
    })

pub returns : goal.returns
returns c =
    let top = c.min-top.result in
    let pins = pins_in c.self.inside.pins in
    let event : within top c.args.event ≡ true = sym c.if-not-is_within.ensures in
    let number : within top c.args.number ≡ true = sym c.if-not-is_within-2.ensures in
    let unpinned : is_some (pins c.args.event) ≡ false = sym c.if-is_some.ensures in
    let untaken : is_taken top pins c.args.number ≡ false = sym (searched _ c.args.number (same c.args.number) c.self.inside.pins _ top (omega arith) (search rules)) ∙ sym c.contains.ensures.value ∙ c.if-contains.false in
    let inside : c.args.event < length c.self.inside.pins = search rules in
    rw (← c.min-top.ensures, ← c.self.view_is) (record {
      answer = sym (pin_goes top pins c.args.event c.args.number event number unpinned untaken);
      after = pins_set c.self.inside.pins c.args.event (Some c.args.number) inside ∙ sym (pin_adds top pins c.args.event c.args.number event number unpinned untaken);
    })
