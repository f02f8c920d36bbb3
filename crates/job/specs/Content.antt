-- What a job says.
use Rattle.std.specs.Prelude.{ℕ, Bool, false, cond, List, [], ◌∷◌, ◌++◌, Option, ◌==◌}
use Rattle.tables.specs.Pins.{no_pins, after_pin}
use Rattle.job.specs.declared.accepted.Kind.{Kind}
use Rattle.job.specs.declared.accepted.Kind.TheVariants.{Mismatch, Difference, Mixed}
use Rattle.job.specs.declared.accepted.Pin.{Pin}

-- the kind with its delta and bound, the size, the pins in their order, the trace and the log
pub record Content : Type 0 where
  pub kind : Kind
  pub size : ℕ
  pub pins : List Pin
  pub trace : List ℕ
  pub log : List ℕ

-- the numbers of the section `bounds`
abbrev pub bounds_of : Kind → List ℕ
bounds_of (Mismatch bound) = bound ∷ []
bounds_of (Difference delta bound) = delta ∷ bound ∷ []
bounds_of (Mixed delta first second) = delta ∷ first ∷ second ∷ []

-- how many there are
abbrev pub bounds_count : Kind → ℕ
bounds_count (Mismatch bound) = 1
bounds_count (Difference delta bound) = 2
bounds_count (Mixed delta first second) = 3

-- whether the number that has so many after it in the section is delta
abbrev pub is_delta : Kind → ℕ → Bool
is_delta (Mismatch bound) after = false
is_delta (Difference delta bound) after = after == 1
is_delta (Mixed delta first second) after = after == 2

-- the kind with the number that has so many after it
abbrev pub with_bound : Kind → ℕ → ℕ → Kind
with_bound (Mismatch bound) after n = Mismatch n
with_bound (Difference delta bound) after n = cond (after == 1) (Difference n bound) (Difference delta n)
with_bound (Mixed delta first second) after n =
    cond (after == 2) (Mixed n first second) (cond (after == 1) (Mixed delta n second) (Mixed delta first n))

-- the pins that stand after the pin calls, made one after another
abbrev pub pins_after : ℕ → (ℕ → Option ℕ) → List Pin → ℕ → Option ℕ
pins_after size pins [] = pins
pins_after size pins (p ∷ ps) = pins_after size (after_pin size pins p.event p.number) ps

abbrev pub laid : ℕ → List Pin → ℕ → Option ℕ
laid size ps = pins_after size no_pins ps

abbrev pub with_kind : Content → Kind → Content
with_kind c kind = record { kind = kind; size = c.size; pins = c.pins; trace = c.trace; log = c.log }

abbrev pub with_size : Content → ℕ → Content
with_size c size = record { kind = c.kind; size = size; pins = c.pins; trace = c.trace; log = c.log }

abbrev pub add_pin : Content → ℕ → ℕ → Content
add_pin c event number = record {
  kind = c.kind;
  size = c.size;
  pins = c.pins ++ (record { event = event; number = number } ∷ []);
  trace = c.trace;
  log = c.log;
}

abbrev pub add_trace : Content → ℕ → Content
add_trace c n = record { kind = c.kind; size = c.size; pins = c.pins; trace = c.trace ++ (n ∷ []); log = c.log }

abbrev pub add_event : Content → ℕ → Content
add_event c n = record { kind = c.kind; size = c.size; pins = c.pins; trace = c.trace; log = c.log ++ (n ∷ []) }
