-- The states that the generator goes through, and the numbers that it draws.
use Rattle.std.specs.Prelude.{ℕ, zero, suc, ◌+◌, ◌*◌, ◌/◌, ◌%◌, ◌^◌, ◌==◌, cond, List, [], ◌∷◌, ◌++◌}

-- the state after one step
abbrev pub next : ℕ → ℕ
next s = ((s * 6364136223846793005) % 2 ^ 64 + 1442695040888963407) % 2 ^ 64

-- the number from 0 to below n that a state gives, and 0 where n is 0
abbrev pub number_below : ℕ → ℕ → ℕ
number_below s n = cond (n == 0) 0 ((s / 2 ^ 33) % n)

-- the number from 1 to n that a state gives, and 0 where n is 0
abbrev pub number_up_to : ℕ → ℕ → ℕ
number_up_to s n = cond (n == 0) 0 (number_below s n + 1)

-- the state after that many steps
abbrev pub state_after : ℕ → ℕ → ℕ
state_after s zero = s
state_after s (suc k) = next (state_after s k)

-- that many numbers from 1 to n, drawn one after another
abbrev pub numbers : ℕ → ℕ → ℕ → List ℕ
numbers s zero n = []
numbers s (suc k) n = numbers s k n ++ (number_up_to (state_after s (suc k)) n ∷ [])
