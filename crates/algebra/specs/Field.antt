-- Fields with decided equality. The ring is mathlib's `CommRing`. Assumes nothing.
use Rattle.std.specs.Prelude.{◌≡◌, ◌≢◌}
use mathlib.Mathlib.Algebra.Ring.Defs.{CommRing}

pub record Field (K : Type 0) : Type 0 where
  -- the operations and their laws
  pub ring : CommRing K
  -- whether two elements are equal is decided
  pub equal : (a b : K) → Dec (a ≡ b)
  -- 1 is not 0
  pub one_not_zero : ring.one ≢ ring.zero
  -- every element but 0 has an inverse
  pub inverse : (a : K) → a ≢ ring.zero → (b : K) × (ring.mul a b ≡ ring.one)
