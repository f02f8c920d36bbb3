-- How a word is compared with a literal.
use Rattle.std.proofs.lemmas.Slice.Eq.{bytes_eq-Decides}

pub ruleset literals = (bytes_eq-Decides)
