-- Prime numbers, by a test that is computed. Assumes nothing.
use Rattle.std.specs.Prelude.{Bool, true, ◌&&◌, ◌||◌, not, ℕ, zero, suc, ◌%◌, leb, ltb, eqb}

-- no number from 2 below n divides p
abbrev pub undivided : ℕ → ℕ → Bool
undivided p zero = true
undivided p (suc k) = (ltb k 2 || not (eqb (p % k) 0)) && undivided p k

-- p is 2 or more, and no number from 2 below p divides it
abbrev pub prime : ℕ → Bool
prime p = leb 2 p && undivided p p
