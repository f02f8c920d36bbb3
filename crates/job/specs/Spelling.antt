-- How a job is written, and which jobs there are.
use Rattle.std.specs.Prelude.{◌≡◌, ℕ, ◌≤◌, List, [], ◌∷◌, ◌++◌, map, length, Ok, decimal, Option}
use Rattle.std.specs.List.{AllByRecursion}
use Rattle.tables.specs.Limits.{max_size, max_places, max_delta}
use Rattle.tables.specs.Pins.{no_pins, pin_answer, after_pin}
use Rattle.tables.specs.Table.{Within}
use Rattle.job.specs.Limits.{max_number, max_pin_numbers, max_log}
use Rattle.job.specs.Content.{Content, bounds_of}
use Rattle.job.specs.Words.{kind_word, title_word}
use Rattle.job.specs.declared.accepted.Kind.{Kind}
use Rattle.job.specs.declared.accepted.Kind.TheVariants.{Mismatch, Difference, Mixed}
use Rattle.job.specs.declared.accepted.Pin.{Pin}
use Rattle.job.specs.declared.expected.Section.{Section}
use Rattle.job.specs.declared.expected.Section.TheVariants.{Size, Bounds, Pins, Trace, Log}

-- a section: its word, its count, and as many numbers, in base ten
abbrev pub section_runs : Section → List ℕ → List (List ℕ)
section_runs section ns = title_word section ∷ decimal (length ns) ∷ map decimal ns

-- event and number by turns
abbrev pub by_turns : List Pin → List ℕ
by_turns [] = []
by_turns (p ∷ ps) = p.event ∷ p.number ∷ by_turns ps

-- the bytes of the runs that spell a job
abbrev pub spelled : Content → List (List ℕ)
spelled c =
    kind_word c.kind ∷
    (section_runs Size (c.size ∷ []) ++
    (section_runs Bounds (bounds_of c.kind) ++
    (section_runs Pins (by_turns c.pins) ++
    (section_runs Trace c.trace ++
    (section_runs Log c.log ++ [])))))

abbrev pub delta_of : Kind → ℕ
delta_of (Mismatch bound) = 0
delta_of (Difference delta bound) = delta
delta_of (Mixed delta first second) = delta

-- pins that the pin calls accept, one after another
abbrev pub Accepted : ℕ → (ℕ → Option ℕ) → List Pin → Type 0
Accepted size pins [] = Unit {0}
Accepted size pins (p ∷ ps) = (pin_answer size pins p.event p.number ≡ Ok tt) × Accepted size (after_pin size pins p.event p.number) ps

-- what a job may say
pub record Valid (c : Content) : Type 0 where
  pub size : Within max_size c.size
  pub delta : delta_of c.kind ≤ max_delta
  pub bounds : AllByRecursion (λ n. n ≤ max_number) (bounds_of c.kind)
  pub few_pins : length (by_turns c.pins) ≤ max_pin_numbers
  pub pins : Accepted c.size no_pins c.pins
  pub places : Within max_places (length c.trace)
  pub trace : AllByRecursion (Within c.size) c.trace
  pub few_events : length c.log ≤ max_log
  pub log : AllByRecursion (Within c.size) c.log
