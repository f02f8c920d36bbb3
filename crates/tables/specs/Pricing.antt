-- What one place costs, with the trace number p and the house number c.
use Rattle.std.specs.Prelude.{ℕ, ◌+◌, ◌-◌, cond, ◌==◌, nat_lt}
use Rattle.costs.specs.Plain.{plain_of}
use Rattle.costs.specs.Pair.{both}
use Rattle.costs.specs.declared.pair.Pair.{Pair}
use Rattle.costs.specs.declared.plain.Plain.{Plain}
use Rattle.tables.specs.declared.grade.Grade.{Grade}
use Rattle.tables.specs.declared.grade.Grade.TheVariants.{Closed, Open}

-- |p - c|
abbrev pub gap : ℕ → ℕ → ℕ
gap p c = (p - c) + (c - p)

-- 0 where the two agree, otherwise 1; closes nothing
abbrev pub mismatch : ℕ → ℕ → Grade Plain
mismatch p c = cond (p == c) (Open (plain_of 0)) (Open (plain_of 1))

-- |p - c|; closes the pair where that is above delta
abbrev pub difference : ℕ → ℕ → ℕ → Grade Plain
difference delta p c = cond (nat_lt delta (gap p c)) Closed (Open (plain_of (gap p c)))

-- (0, 0) where the two agree, otherwise (1, |p - c|); closes as difference does
abbrev pub mixed : ℕ → ℕ → ℕ → Grade (Pair Plain Plain)
mixed delta p c =
    cond (nat_lt delta (gap p c)) Closed
    (cond (p == c) (Open (both (plain_of 0) (plain_of 0))) (Open (both (plain_of 1) (plain_of (gap p c)))))
