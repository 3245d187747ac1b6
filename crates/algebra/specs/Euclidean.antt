-- Commutative rings with decided equality and division with remainder, over any carrier. Assumes nothing.
use Rattle.std.specs.Prelude.{◌≡◌, Bool, true, ◌⊎◌, ◌≢◌, ℕ, ◌<◌, ◌≤◌}
use mathlib.Mathlib.Algebra.Ring.Defs.{CommRing}
use Rattle.algebra.specs.Divisibility.{IsUnit}

-- what such a ring has: its operations, decided equality, a size (which means nothing at 0), and
-- which elements are called normal
pub record Euclidean (R : Type 0) : Type 0 where
  pub ring : CommRing R
  pub equal : (a b : R) → Dec (a ≡ b)
  pub size : R → ℕ
  pub normal : R → Bool

-- a quotient and a remainder of a by b: the remainder is 0 or smaller than b
pub record Division {R : Type 0} (E : Euclidean R) (a b q r : R) : Type 0 where
  pub sum : a ≡ E.ring.add (E.ring.mul q b) r
  pub small : (r ≡ E.ring.zero) ⊎ (E.size r < E.size b)

-- what such a ring keeps
pub record EuclideanLaws {R : Type 0} (E : Euclidean R) : Type 0 where
  -- 1 is not 0
  pub one_not_zero : E.ring.one ≢ E.ring.zero
  -- no product of non-zero elements is 0
  pub no_zero_divisors : (a b : R) → a ≢ E.ring.zero → b ≢ E.ring.zero → E.ring.mul a b ≢ E.ring.zero
  -- division with remainder, by anything but 0
  pub divide : (a b : R) → b ≢ E.ring.zero → (q : R) × (r : R) × Division E a b q r
  -- a non-zero product is not smaller than its factors
  pub size_product : (a b : R) → E.ring.mul a b ≢ E.ring.zero → E.size a ≤ E.size (E.ring.mul a b)
  -- every non-zero element has a unit multiple that is normal
  pub normal_multiple : (a : R) → a ≢ E.ring.zero → (u : R) × IsUnit E.ring u × (E.normal (E.ring.mul u a) ≡ true)
  -- and only one
  pub normal_unique : (a u v : R) → a ≢ E.ring.zero → IsUnit E.ring u → IsUnit E.ring v → E.normal (E.ring.mul u a) ≡ true → E.normal (E.ring.mul v a) ≡ true → E.ring.mul u a ≡ E.ring.mul v a
  -- 1 is normal
  pub normal_one : E.normal E.ring.one ≡ true
  -- normal times normal is normal
  pub normal_product : (a b : R) → E.normal a ≡ true → E.normal b ≡ true → E.normal (E.ring.mul a b) ≡ true
