-- The derivative is linear and keeps the product rule, so a square that divides a polynomial shows in the derivative. Assumes nothing.
use mathlib.Core.Path.{◌≡◌, sym, ap, ap₂, ◌∙◌, fun_ext}
use mathlib.Mathlib.Algebra.Ring.Defs.{CommRing}
use Prim.Native.Nat.{ℕ, zero, suc}
use native.Mathlib.Omega.{arith}
use Rattle.algebra.specs.Field.{Field}
use Rattle.algebra.specs.Divisibility.{Divides, Coprime, Squarefree}
use Rattle.algebra.proofs.Ring
use Rattle.algebra.proofs.Divides.{divides_trans, divides_left, divides_mul_left, divides_add, divides_eq}
use Rattle.polynomials.specs.Sequence.{convolution, convolution_first, convolution_rest, multiple, multiple_zero, rest, Vanishes}
use Rattle.polynomials.specs.Polynomial.{Polynomial, polynomial, plus, times, degree, derivative}
use Rattle.polynomials.proofs.Convolution.{convolution_add}
use Rattle.polynomials.proofs.Multiple.{multiple_suc, multiple_one, multiple_sum, multiple_product}
use Rattle.polynomials.proofs.Equality.{extensional}
use Rattle.polynomials.proofs.Coefficients.{coefficient_derivative}
use Rattle.polynomials.proofs.Degree.{above_degree}
use Rattle.polynomials.proofs.Ring.{polynomial_ring}

module _ {R : Type 0} (𝓡 : CommRing R) where
  open 𝓡 use {add as ◌⊕◌, mul as ◌⊙◌}

  infixl 65 ◌⊕◌
  infixl 70 ◌⊙◌
  -- the coefficients of the derivative
  abbrev D : (ℕ → R) → ℕ → R
  D a i = multiple 𝓡 (suc i) (a (suc i))

  shuffle : (x y z u w : R) → (x ⊕ (y ⊕ z)) ⊕ (u ⊕ w) ≡ u ⊕ ((x ⊕ y) ⊕ (z ⊕ w))
  shuffle x y z u w = simp (Ring.add_assoc 𝓡, Ring.add_left_comm 𝓡)

  -- the product rule for sequences
  convolution_derivative : (a b : ℕ → R) (n : ℕ) → D (convolution 𝓡 a b) n ≡ convolution 𝓡 (D a) b n ⊕ convolution 𝓡 a (D b) n
  convolution_derivative a b zero =
      multiple_one 𝓡 (convolution 𝓡 a b 1)
      ∙ convolution_rest 𝓡 a b 0
      ∙ simp (convolution_first 𝓡, multiple_one 𝓡) (Ring.add_comm 𝓡 _ _)
  convolution_derivative a b (suc n) =
      ap (multiple 𝓡 (suc (suc n))) (convolution_rest 𝓡 a b (suc n))
      ∙ multiple_sum 𝓡 (suc (suc n)) (a 0 ⊙ b (suc (suc n))) (convolution 𝓡 (rest 𝓡 a) b (suc n))
      ∙ ap₂ ◌⊕◌ (multiple_product 𝓡 (suc (suc n)) (a 0) (b (suc (suc n)))) (multiple_suc 𝓡 (suc n) (convolution 𝓡 (rest 𝓡 a) b (suc n)))
      ∙ ap (λ x. a 0 ⊙ D b (suc n) ⊕ (convolution 𝓡 (rest 𝓡 a) b (suc n) ⊕ x)) (convolution_derivative (rest 𝓡 a) b n)
      ∙ sym right
    where
      derivative_rest : rest 𝓡 (D a) ≡ (λ i. a (suc (suc i)) ⊕ D (rest 𝓡 a) i)
      derivative_rest = fun_ext (λ i. multiple_suc 𝓡 (suc i) (a (suc (suc i))))

      right : convolution 𝓡 (D a) b (suc n) ⊕ convolution 𝓡 a (D b) (suc n)
          ≡ a 0 ⊙ D b (suc n) ⊕ (convolution 𝓡 (rest 𝓡 a) b (suc n) ⊕ (convolution 𝓡 (D (rest 𝓡 a)) b n ⊕ convolution 𝓡 (rest 𝓡 a) (D b) n))
      right =
          ap₂ ◌⊕◌
          (convolution_rest 𝓡 (D a) b n
          ∙ ap₂ (λ x f. x ⊙ b (suc n) ⊕ convolution 𝓡 f b n) (multiple_one 𝓡 (a 1)) derivative_rest
          ∙ ap (λ x. a 1 ⊙ b (suc n) ⊕ x) (convolution_add 𝓡 (λ i. a (suc (suc i))) (D (rest 𝓡 a)) b n))
          (convolution_rest 𝓡 a (D b) n)
          ∙ shuffle (a 1 ⊙ b (suc n)) (convolution 𝓡 (rest 𝓡 (rest 𝓡 a)) b n) (convolution 𝓡 (D (rest 𝓡 a)) b n) (a 0 ⊙ D b (suc n)) (convolution 𝓡 (rest 𝓡 a) (D b) n)
          ∙ ap (λ x. a 0 ⊙ D b (suc n) ⊕ (x ⊕ (convolution 𝓡 (D (rest 𝓡 a)) b n ⊕ convolution 𝓡 (rest 𝓡 a) (D b) n))) (sym (convolution_rest 𝓡 (rest 𝓡 a) b n))

module _ {K : Type 0} (𝓚 : Field K) where
  open polynomial_ring 𝓚 use {add as ◌+◌, mul as ◌*◌}

  infixl 65 ◌+◌
  infixl 70 ◌*◌
  -- the derivative of a sum is the sum of the derivatives
  pub derivative_plus : (p q : Polynomial 𝓚) → derivative 𝓚 (p + q) ≡ derivative 𝓚 p + derivative 𝓚 q
  unfolding plus derivative polynomial
  derivative_plus p q = extensional 𝓚 _ _ (λ i. multiple_sum 𝓚.ring (suc i) (p.coefficient (suc i)) (q.coefficient (suc i)))

  -- the product rule
  pub derivative_times : (p q : Polynomial 𝓚) → derivative 𝓚 (p * q) ≡ derivative 𝓚 p * q + p * derivative 𝓚 q
  unfolding plus times derivative polynomial
  derivative_times p q = extensional 𝓚 _ _ (convolution_derivative 𝓚.ring p.coefficient q.coefficient)

  -- the derivative has fewer coefficients than the polynomial
  pub derivative_smaller : (p : Polynomial 𝓚) → Vanishes 𝓚.ring (derivative 𝓚 p).coefficient (degree 𝓚 p)
  derivative_smaller p i h =
      coefficient_derivative 𝓚 p i ∙ ap (multiple 𝓚.ring (suc i)) (above_degree 𝓚 p (suc i) (omega arith)) ∙ multiple_zero 𝓚.ring (suc i)

  -- if the square of d divides p then d divides the derivative of p
  pub square_divides_derivative : (d p : Polynomial 𝓚) → Divides (polynomial_ring 𝓚) (d * d) p → Divides (polynomial_ring 𝓚) d (derivative 𝓚 p)
  square_divides_derivative d p (c, e) =
      divides_eq (polynomial_ring 𝓚)
      (divides_add (polynomial_ring 𝓚)
      (divides_mul_left (polynomial_ring 𝓚) (derivative 𝓚 d) (divides_left (polynomial_ring 𝓚) d c))
      (divides_left (polynomial_ring 𝓚) d (derivative 𝓚 (d * c))))
      (sym (derivative_times d (d * c)) ∙ ap (derivative 𝓚) (sym (Ring.mul_assoc (polynomial_ring 𝓚) d d c) ∙ e))

  -- a polynomial that is coprime to its derivative is squarefree
  pub coprime_derivative_squarefree : (p : Polynomial 𝓚) → Coprime (polynomial_ring 𝓚) p (derivative 𝓚 p) → Squarefree (polynomial_ring 𝓚) p
  coprime_derivative_squarefree p h d s =
      h d (divides_trans (polynomial_ring 𝓚) (divides_left (polynomial_ring 𝓚) d d) s) (square_divides_derivative d p s)
