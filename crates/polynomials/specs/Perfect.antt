-- Powers, and the fields of a characteristic p in which every element is a p-th power. Assumes nothing.
use Rattle.std.specs.Prelude.{◌≡◌, ℕ, zero, suc, ◌<◌}
use mathlib.Mathlib.Algebra.Ring.Defs.{CommRing}
use Rattle.algebra.specs.Field.{Field}
use Rattle.polynomials.specs.Sequence.{multiple}

-- a · a · .. · a, n times
unfoldable pub power : {R : Type 0} → CommRing R → R → ℕ → R
power 𝓡 a zero = 𝓡.one
power 𝓡 a (suc n) = 𝓡.mul a (power 𝓡 a n)

-- p times anything is 0, and fewer times nothing but 0 is
pub record Characteristic {R : Type 0} (𝓡 : CommRing R) (p : ℕ) : Type 0 where
  pub positive : 0 < p
  pub vanishes : (a : R) → multiple 𝓡 p a ≡ 𝓡.zero
  pub least : (n : ℕ) (a : R) → 0 < n → n < p → multiple 𝓡 n a ≡ 𝓡.zero → a ≡ 𝓡.zero

-- a field of a characteristic p in which every element is a p-th power
pub record Perfect {K : Type 0} (𝓚 : Field K) : Type 0 where
  pub p : ℕ
  pub characteristic : Characteristic 𝓚.ring p
  pub root : (a : K) → (b : K) × (power 𝓚.ring b p ≡ a)
