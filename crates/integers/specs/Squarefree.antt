-- Squarefree numbers, and the steps by which the code finds whether a number is one. Assumes nothing.
use Rattle.std.specs.Prelude.{◌≡◌, ℕ, ◌*◌, ◌/◌, ◌%◌, ◌^◌, ◌<◌, ◌≤◌, ◌≢◌}

-- no square of a number from 2 on divides n
abbrev pub NoSquareDivides : ℕ → Type 0
NoSquareDivides n = (k : ℕ) → 2 ≤ k → n % (k * k) ≢ 0

-- the words of the moduli: legal and squarefree
pub record ModulusWord (w : ℕ) : Type 0 where
  pub large : 2 ≤ w
  pub small : w < 2 ^ 31
  pub free : NoSquareDivides w

-- n is the square of a number from 2 on
abbrev pub IsSquare : ℕ → Type 0
IsSquare n = (k : ℕ) × (2 ≤ k) × (k * k ≡ n)

-- d divides n, and then the quotient too
pub record DividesTwice (d n : ℕ) : Type 0 where
  pub first : n % d ≡ 0
  pub second : n / d % d ≡ 0

-- what is left of n: the quotient by d where d divides n, else n itself; and d does not divide it
pub record Left (d n left : ℕ) : Type 0 where
  pub divided : n % d ≡ 0 → left ≡ n / d
  pub kept : (n % d ≢ 0) → left ≡ n
  pub none : left % d ≡ 0 → ⊥
