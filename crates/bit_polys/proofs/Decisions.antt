-- The tests of a word for 0 and for 1 are those of its polynomial for 0 and for a unit. Assumes nothing.
use Rattle.std.proofs.Common.{◌≡◌, ℕ, eqb, sym, ap, ◌∙◌, subst, pos_of_ne-zero}
use Rattle.algebra.specs.Divisibility.{IsUnit}
use Rattle.algebra.proofs.Bezout.{unit_nonzero}
use Rattle.domains.specs.Answers.{Decides}
use Rattle.domains.proofs.Decisions.{decides_equal}
use Rattle.polynomials.specs.Polynomial.{zero_polynomial}
use Rattle.polynomials.proofs.Ring.{polynomial_ring}
use Rattle.polynomials.proofs.Euclidean.{polynomial_laws}
use Rattle.bit_polys.specs.BitPolys.{bit_field, polynomial_of}
use Rattle.bit_polys.specs.Words.{zero_stands, zero_only}
use Rattle.bit_polys.specs.Degrees.{unit_one, one_is_unit}

-- only the word 0 stands for 0
pub decides_zero : (w : ℕ) → Decides (eqb w 0) (polynomial_of w ≡ zero_polynomial bit_field)
decides_zero w = decides_equal w 0 _ (λ e. ap polynomial_of e ∙ zero_stands) (zero_only w)

-- only the word 1 stands for a unit
pub decides_unit : (w : ℕ) → Decides (eqb w 1) (IsUnit (polynomial_ring bit_field) (polynomial_of w))
decides_unit w =
    decides_equal w 1 (IsUnit (polynomial_ring bit_field) (polynomial_of w))
    (λ e. subst (λ x. IsUnit (polynomial_ring bit_field) (polynomial_of x)) (sym e) one_is_unit)
    (λ u. unit_one w (pos_of_ne-zero (λ z. unit_nonzero (polynomial_laws bit_field) u (ap polynomial_of z ∙ zero_stands))) u)
