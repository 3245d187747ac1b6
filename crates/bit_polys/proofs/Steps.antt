-- The step that division and multiplication of words share. Assumes nothing.
use Rattle.std.proofs.Common.{◌≡◌, ℕ, ◌*◌, ◌^◌, ap, ◌∙◌, ap₂}
use lib.Bits.{bit_xor}
use Rattle.algebra.proofs.Ring
use Rattle.polynomials.specs.Polynomial.{monomial}
use Rattle.polynomials.proofs.Ring.{polynomial_ring}
use Rattle.bit_polys.specs.BitPolys.{bit_field, BitPolynomial, polynomial_of}
use Rattle.bit_polys.specs.Words.{xor_adds, double, shift_multiplies, power_stands}
open polynomial_ring bit_field use {add as ◌⊕◌, mul as ◌⊙◌}

infixl 65 ◌⊕◌
infixl 70 ◌⊙◌
-- two equal summands side by side
shuffle : (x y z : BitPolynomial) → (x ⊕ y) ⊕ (z ⊕ y) ≡ (x ⊕ z) ⊕ (y ⊕ y)
shuffle x y z = simp (Ring.add_assoc (polynomial_ring bit_field), Ring.add_comm (polynomial_ring bit_field), Ring.add_left_comm (polynomial_ring bit_field))

-- q b + r stays the same when x^k is added to q and x^k b to r
pub step : (q r b k : ℕ) → polynomial_of (bit_xor q (2 ^ k)) ⊙ polynomial_of b ⊕ polynomial_of (bit_xor r (b * 2 ^ k)) ≡ polynomial_of q ⊙ polynomial_of b ⊕ polynomial_of r
step q r b k =
    ap₂ (λ s t. s ⊙ polynomial_of b ⊕ t) (xor_adds q (2 ^ k) ∙ ap (λ x. polynomial_of q ⊕ x) (power_stands k)) (xor_adds r (b * 2 ^ k) ∙ ap (λ x. polynomial_of r ⊕ x) (shift_multiplies b k))
    ∙ ap (λ x. x ⊕ (polynomial_of r ⊕ monomial bit_field bit_field.ring.one k ⊙ polynomial_of b)) (Ring.add_mul (polynomial_ring bit_field) _ _ _)
    ∙ shuffle _ _ _
    ∙ ap (λ x. polynomial_of q ⊙ polynomial_of b ⊕ polynomial_of r ⊕ x) (double _)
    ∙ Ring.add-zero (polynomial_ring bit_field) _
