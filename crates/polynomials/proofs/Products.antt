-- A product of n polynomials that are no units has degree n or more. Assumes nothing.
use mathlib.Core.Logic.{◌≢◌}
use mathlib.Core.List.{List, [], ◌∷◌}
use lib.ListN.{length}
use Prim.Native.Nat.{◌≤◌}
use native.Mathlib.Omega.{arith}
use native.Mathlib.Decide.{dec_le}
use Rattle.algebra.specs.Field.{Field}
use Rattle.algebra.specs.Divisibility.{IsUnit, product, NonUnits}
use Rattle.polynomials.specs.Polynomial.{Polynomial, zero_polynomial, degree}
use Rattle.polynomials.proofs.Ring.{polynomial_ring}
use Rattle.polynomials.proofs.Degree.{degree_times}
use Rattle.polynomials.proofs.Units.{left_not_zero, right_not_zero, degree_unit}

module _ {K : Type 0} (𝓚 : Field K) where
  -- a non-zero polynomial that is no unit has degree 1 or more
  pub non_unit_degree : (p : Polynomial 𝓚) → p ≢ zero_polynomial 𝓚 → ¬ IsUnit (polynomial_ring 𝓚) p → 1 ≤ degree 𝓚 p
  non_unit_degree p h k = elim (dec_le 1 (degree 𝓚 p)) [ yes d ↦ d | no d ↦ absurd (k (degree_unit 𝓚 p h (omega arith))) ]

  -- and so the degree of a non-zero product of non-units is at least their number
  pub product_degree : (ps : List (Polynomial 𝓚)) → NonUnits (polynomial_ring 𝓚) ps → product (polynomial_ring 𝓚) ps ≢ zero_polynomial 𝓚
      → length ps ≤ degree 𝓚 (product (polynomial_ring 𝓚) ps)
  product_degree [] _ h = omega arith
  product_degree (p ∷ ps) k h =
      let hp : p ≢ zero_polynomial 𝓚 = left_not_zero 𝓚 p (product (polynomial_ring 𝓚) ps) h in
      let hs : product (polynomial_ring 𝓚) ps ≢ zero_polynomial 𝓚 = right_not_zero 𝓚 p (product (polynomial_ring 𝓚) ps) h in
      omega (arith, degree_times 𝓚 p (product (polynomial_ring 𝓚) ps) hp hs, non_unit_degree p hp k.0, product_degree ps k.1 hs)
