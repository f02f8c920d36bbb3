-- Pins laid one after another, one more.
use Rattle.std.proofs.Common.{◌≡◌, ℕ, ◌+◌, ◌<◌, List, [], ◌∷◌, ◌++◌, length, get_or, take, Option, sym, refl, ap, ◌∙◌}
use Rattle.std.proofs.lemmas.List.{take_more}
use Rattle.tables.specs.Pins.{after_pin}
use Rattle.watch.specs.Ledger.{Ledger, after_pinning}
use Rattle.job.specs.Content.{pins_after}
use Rattle.job.specs.declared.accepted.Pin.{Pin}
use Rattle.answer.specs.Answers.{with_pins}

pub pins_push : (s : ℕ) (pins : ℕ → Option ℕ) (ps : List Pin) (p : Pin) → pins_after s pins (ps ++ (p ∷ [])) ≡ after_pin s (pins_after s pins ps) p.event p.number
pins_push s pins [] p = refl
pins_push s pins (q ∷ ps) p = pins_push s (after_pin s pins q.event q.number) ps p

module _ {C : Type 0} (start here next : Ledger C) (ps : List Pin) (i : ℕ) (z : Pin) (h : i < length ps) (same : here ≡ with_pins start (take i ps)) (laid : next ≡ after_pinning here (get_or ps i z).event (get_or ps i z).number) where
  pub one_more_pin : next ≡ with_pins start (take (i + 1) ps)
  one_more_pin =
      let p = get_or ps i z in
      let there : after_pinning here p.event p.number ≡ after_pinning (with_pins start (take i ps)) p.event p.number = ap (λ (l : Ledger C). after_pinning l p.event p.number) same in
      let pushed : after_pinning (with_pins start (take i ps)) p.event p.number ≡ with_pins start (take i ps ++ (p ∷ [])) =
      λ j. record { table = start.table; pins = sym (pins_push start.table.size start.pins (take i ps) p) j; bound = start.bound } in
      laid ∙ there ∙ pushed ∙ ap (with_pins start) (sym (take_more ps i z h))
