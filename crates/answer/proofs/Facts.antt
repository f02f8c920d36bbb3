-- What the calls look at holds of a job that was accepted.
use Rattle.std.proofs.Common.{◌≡◌, ℕ, ◌+◌, true, ◌&&◌, List, [], ◌∷◌, length, None, refl, arith}
use Rattle.std.specs.List.{AllByRecursion}
use Rattle.std.proofs.lemmas.Bool.Decides.{nat_tests}
use Rattle.tables.specs.Limits.{max_size, max_places}
use Rattle.tables.specs.Summing.{all_within}
use Rattle.tables.specs.Table.{Within, within}
use Rattle.watch.specs.Walking.{first_outside}
use Rattle.job.specs.Content.{Content}
use Rattle.job.specs.Spelling.{Valid}

within_true : (s n : ℕ) → Within s n → within s n ≡ true
within_true s n h = grind (arith, nat_tests)

pub all_within_true : (s : ℕ) (ns : List ℕ) → AllByRecursion (Within s) ns → all_within s ns ≡ true
all_within_true s [] all = refl
all_within_true s (n ∷ ns) all = rw (within_true s n all.0, all_within_true s ns all.1) refl

-- no event is outside
pub none_outside : (s p : ℕ) (es : List ℕ) → AllByRecursion (Within s) es → first_outside s p es ≡ None
none_outside s p [] all = refl
none_outside s p (e ∷ es) all = rw (within_true s e all.0) (none_outside s (p + 1) es all.1)

module _ (c : Content) (valid : Valid c) where
  pub size_fits : within max_size c.size ≡ true
  size_fits = within_true max_size c.size valid.size

  pub trace_fits : (within max_places (length c.trace) && all_within c.size c.trace) ≡ true
  trace_fits = rw (within_true max_places (length c.trace) valid.places, all_within_true c.size c.trace valid.trace) refl

  pub log_fits : first_outside c.size 1 c.log ≡ None
  log_fits = none_outside c.size 1 c.log valid.log
