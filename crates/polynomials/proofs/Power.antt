-- Powers in a commutative ring. Assumes nothing.
use mathlib.Core.Path.{◌≡◌, refl, sym, ◌∙◌}
use mathlib.Mathlib.Algebra.Ring.Defs.{CommRing}
use Prim.Native.Nat.{ℕ, zero, suc, ◌<◌, ◌≤◌}
use native.Mathlib.Nat.{not-suc-le-zero}
use native.Mathlib.Omega.{arith}
use Rattle.algebra.specs.Divisibility.{Divides, IsUnit}
use Rattle.algebra.proofs.Ring
use Rattle.algebra.proofs.Divides.{one_unit, unit_product}
use Rattle.polynomials.specs.Perfect.{power}

module _ {R : Type 0} (𝓡 : CommRing R) where
  open 𝓡 use {mul as ◌⊙◌, zero as 𝟘, one as 𝟙}

  infixl 70 ◌⊙◌
  -- the powers of 0
  pub power_zero : (n : ℕ) → 0 < n → power 𝓡 𝟘 n ≡ 𝟘
  unfolding power
  power_zero zero h = absurd (not-suc-le-zero h)
  power_zero (suc n) h = Ring.zero-mul 𝓡 (power 𝓡 𝟘 n)

  -- and of 1
  pub power_one : (n : ℕ) → power 𝓡 𝟙 n ≡ 𝟙
  unfolding power
  power_one zero = refl
  power_one (suc n) = Ring.one-mul 𝓡 (power 𝓡 𝟙 n) ∙ power_one n

  -- a power of a product is the product of the powers
  pub power_product : (a b : R) (n : ℕ) → power 𝓡 (a ⊙ b) n ≡ power 𝓡 a n ⊙ power 𝓡 b n
  unfolding power
  power_product a b zero = sym (Ring.mul-one 𝓡 𝟙)
  power_product a b (suc n) = simp (power_product a b n, Ring.mul_assoc 𝓡, Ring.mul_left_comm 𝓡)

  -- the square of a divides its higher powers
  pub square_divides_power : (a : R) (n : ℕ) → 2 ≤ n → Divides 𝓡 (a ⊙ a) (power 𝓡 a n)
  unfolding power
  square_divides_power a zero h = absurd (omega arith)
  square_divides_power a (suc zero) h = absurd (omega arith)
  square_divides_power a (suc (suc n)) h = (power 𝓡 a n, Ring.mul_assoc 𝓡 a a (power 𝓡 a n))

  -- a power of a unit is a unit
  pub power_unit : (a : R) (n : ℕ) → IsUnit 𝓡 a → IsUnit 𝓡 (power 𝓡 a n)
  unfolding power
  power_unit a zero u = one_unit 𝓡
  power_unit a (suc n) u = unit_product 𝓡 u (power_unit a n u)
