-- Over a perfect field a polynomial is squarefree exactly when it is coprime to its derivative. Assumes nothing.
use mathlib.Core.Path.{◌≡◌, sym, ap, ◌∙◌, subst}
use mathlib.Core.Logic.{◌↔◌}
use Rattle.algebra.specs.Field.{Field}
use Rattle.algebra.specs.Divisibility.{Divides, IsUnit, Coprime, Squarefree}
use Rattle.algebra.proofs.Ring
use Rattle.algebra.proofs.Divides.{divides_self, divides_zero, divides_eq, divides_trans, divides_left, divides_sub, squarefree_coprime}
use Rattle.algebra.proofs.Primes.{coprime_divides}
use Rattle.polynomials.specs.Polynomial.{Polynomial, zero_polynomial, plus, times, derivative}
use Rattle.polynomials.specs.Perfect.{power, Perfect}
use Rattle.polynomials.proofs.Power.{power_unit, square_divides_power}
use Rattle.polynomials.proofs.Ring.{polynomial_ring}
use Rattle.polynomials.proofs.Euclidean.{polynomial_laws}
use Rattle.polynomials.proofs.Remainder.{smaller_multiple}
use Rattle.polynomials.proofs.Derivative.{derivative_smaller, derivative_times, coprime_derivative_squarefree}
use Rattle.polynomials.proofs.Characteristic.{two_or_more}
use Rattle.polynomials.proofs.ZeroDerivative.{zero_derivative_power}

module _ {K : Type 0} (𝓚 : Field K) (P : Perfect 𝓚) where
  -- a common divisor of a squarefree polynomial and its derivative is a unit
  pub squarefree_coprime_derivative : (f : Polynomial 𝓚) → Squarefree (polynomial_ring 𝓚) f → Coprime (polynomial_ring 𝓚) f (derivative 𝓚 f)
  squarefree_coprime_derivative f s d (h, e) dd = subst (IsUnit (polynomial_ring 𝓚)) root.1 (power_unit (polynomial_ring 𝓚) root.0 P.p root_unit)
    where
      coprime : Coprime (polynomial_ring 𝓚) d h
      coprime = squarefree_coprime (polynomial_ring 𝓚) d h (subst (Squarefree (polynomial_ring 𝓚)) (sym e) s)

      divides_product : Divides (polynomial_ring 𝓚) d (times 𝓚 h (derivative 𝓚 d))
      divides_product =
          divides_eq (polynomial_ring 𝓚) (divides_sub (polynomial_ring 𝓚) dd (divides_left (polynomial_ring 𝓚) d (derivative 𝓚 h)))
          (Ring.sub_eq (polynomial_ring 𝓚) (derivative 𝓚 f) (times 𝓚 d (derivative 𝓚 h)) (times 𝓚 h (derivative 𝓚 d))
          (ap (derivative 𝓚) (sym e) ∙ derivative_times 𝓚 d h ∙ Ring.add_comm (polynomial_ring 𝓚) _ _ ∙ ap (plus 𝓚 (times 𝓚 d (derivative 𝓚 h))) (Ring.mul_comm (polynomial_ring 𝓚) _ _)))

      flat : derivative 𝓚 d ≡ zero_polynomial 𝓚
      flat = smaller_multiple 𝓚 d (derivative 𝓚 d) (derivative_smaller 𝓚 d) (coprime_divides (polynomial_laws 𝓚) d h (derivative 𝓚 d) coprime divides_product)

      root : (k : Polynomial 𝓚) × (power (polynomial_ring 𝓚) k P.p ≡ d)
      root = zero_derivative_power 𝓚 P d flat

      root_unit : IsUnit (polynomial_ring 𝓚) root.0
      root_unit =
          s root.0
          (divides_trans (polynomial_ring 𝓚) (divides_eq (polynomial_ring 𝓚) (square_divides_power (polynomial_ring 𝓚) root.0 P.p (two_or_more 𝓚 P.p P.characteristic)) root.1) (h, e))

  -- a polynomial is squarefree exactly when it is coprime to its derivative
  pub squarefree_iff_coprime_derivative : (f : Polynomial 𝓚) → Squarefree (polynomial_ring 𝓚) f ↔ Coprime (polynomial_ring 𝓚) f (derivative 𝓚 f)
  squarefree_iff_coprime_derivative f = (squarefree_coprime_derivative f, coprime_derivative_squarefree 𝓚 f)

  -- a polynomial whose derivative is 0 is not squarefree, unless it is a unit
  pub zero_derivative_not_squarefree : (f : Polynomial 𝓚) → derivative 𝓚 f ≡ zero_polynomial 𝓚 → ¬ IsUnit (polynomial_ring 𝓚) f → ¬ Squarefree (polynomial_ring 𝓚) f
  zero_derivative_not_squarefree f d h s =
      h (squarefree_coprime_derivative f s f (divides_self (polynomial_ring 𝓚) f) (divides_eq (polynomial_ring 𝓚) (divides_zero (polynomial_ring 𝓚) f) (sym d)))
