-- What the reader holds after a pin was laid.
use Rattle.std.proofs.Common.{◌≡◌, ℕ, ◌≤◌, min, false, List, [], ◌∷◌, ◌++◌, is_ok, Ok, Err, Option, Result, sym, refl, ap, ◌∙◌, arith}
use Rattle.std.proofs.lemmas.Bool.{cond-false}
use Rattle.tables.specs.Limits.{max_size}
use Rattle.tables.specs.Pins.{pins_in, no_pins, pin_answer, after_pin}
use Rattle.tables.specs.Refusals.{answered}
use Rattle.tables.specs.declared.refusal.Refusal.{Refusal}
use Rattle.job.specs.Content.{pins_after, laid}
use Rattle.job.specs.declared.accepted.Pin.{Pin}

pins_after_push : (size : ℕ) (pins : ℕ → Option ℕ) (ps : List Pin) (p : Pin) → pins_after size pins (ps ++ (p ∷ [])) ≡ after_pin size (pins_after size pins ps) p.event p.number
pins_after_push size pins [] p = refl
pins_after_push size pins (q ∷ ps) p = pins_after_push size (after_pin size pins q.event q.number) ps p

pub laid_push : (size : ℕ) (ps : List Pin) (p : Pin) → laid size (ps ++ (p ∷ [])) ≡ after_pin size (laid size ps) p.event p.number
laid_push size ps p = pins_after_push size no_pins ps p

pub answered_ok : {A : Type 0} (r : Result A Refusal) → is_ok (answered r) ≡ is_ok r
answered_ok (Ok a) = refl
answered_ok (Err e) = refl

-- the pins of the table after a pin call are those of the list with the pin, where the call refuses none
module _ (size event n : ℕ) (pins : List Pin) (old new : List (Option ℕ)) (sized : size ≤ max_size) (stands : pins_in old ≡ laid size pins)
    (after : pins_in new ≡ after_pin (min size max_size) (pins_in old) event n) where
  pub stands_more : pins_in new ≡ laid size (pins ++ (record { event = event; number = n } ∷ []))
  stands_more =
      let whole : min size max_size ≡ size = omega arith in
      after
      ∙ ap (λ s. after_pin s (pins_in old) event n) whole
      ∙ ap (λ (f : ℕ → Option ℕ). after_pin size f event n) stands
      ∙ sym (laid_push size pins (record { event = event; number = n }))

  pub stands_still : is_ok (pin_answer (min size max_size) (pins_in old) event n) ≡ false → pins_in new ≡ laid size pins
  stands_still q = after ∙ cond-false _ _ _ q ∙ stands
