-- A perfect field with its scalars, and remainders of polynomials over it. Assumes nothing.
use Rattle.std.specs.Prelude.{◌≡◌, ◌≢◌}
use Rattle.algebra.specs.Field.{Field}
use Rattle.algebra.specs.Euclidean.{Division}
use Rattle.polynomials.specs.Perfect.{Perfect}
use Rattle.polynomials.specs.Polynomial.{Polynomial, zero_polynomial}
use Rattle.polynomials.proofs.Euclidean.{polynomials}

-- a field of a characteristic p in which every element is a p-th power, with the type of its elements
pub record PerfectField : Type 1 where
  pub Scalar : Type 0
  pub field : Field Scalar
  pub perfect : Perfect field

-- r is a remainder of a by b; by 0 it is a
pub record IsRemainder (F : PerfectField) (a b r : Polynomial F.field) : Type 0 where
  pub by_nonzero : b ≢ zero_polynomial F.field → (q : Polynomial F.field) × Division (polynomials F.field) a b q r
  pub by_zero : b ≡ zero_polynomial F.field → r ≡ a
