-- What is added up of a cost.
use Rattle.std.specs.Prelude.{ℤ, pos, Some, None, Option}
use Rattle.costs.specs.declared.plain.Plain.{Plain}

-- the plain costs of a cost as two numbers, the second 0 where there is but one
abbrev pub numbers_of : Plain × Option Plain → ℤ × ℤ
numbers_of (only, None) = (only.value, pos 0)
numbers_of (first, Some second) = (first.value, second.value)
