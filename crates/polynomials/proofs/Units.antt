-- The units are the polynomials of degree 0 other than 0, and each non-zero polynomial is a unit times a monic one. Assumes nothing.
use mathlib.Core.Path.{◌≡◌, sym, ap, ◌∙◌, subst}
use mathlib.Core.Bool.{true, false, false≢true}
use mathlib.Core.Logic.{◌≢◌, ite, if_pos}
use Prim.Native.Nat.{ℕ, zero, suc, ◌≤◌}
use native.Mathlib.Omega.{arith}
use Rattle.algebra.specs.Field.{Field}
use Rattle.algebra.specs.Divisibility.{IsUnit}
use Rattle.algebra.proofs.Ring
use Rattle.polynomials.specs.Polynomial.{Polynomial, zero_polynomial, one_polynomial, monomial, times, degree, leading, monic}
use Rattle.polynomials.proofs.Equality.{extensional}
use Rattle.polynomials.proofs.Coefficients.{coefficient_zero, coefficient_scale, coefficient_monomial, coefficient_monomial_other}
use Rattle.polynomials.proofs.Ring.{polynomial_ring}
use Rattle.polynomials.proofs.Degree

module _ {K : Type 0} (𝓚 : Field K) where
  open 𝓚.ring use {mul as ◌⊙◌, zero as 𝟘, one as 𝟙}

  infixl 70 ◌⊙◌
  -- factors of a non-zero product are not 0
  pub left_not_zero : (p q : Polynomial 𝓚) → times 𝓚 p q ≢ zero_polynomial 𝓚 → p ≢ zero_polynomial 𝓚
  left_not_zero p q h e = h (ap (λ x. times 𝓚 x q) e ∙ Ring.zero-mul (polynomial_ring 𝓚) q)

  pub right_not_zero : (p q : Polynomial 𝓚) → times 𝓚 p q ≢ zero_polynomial 𝓚 → q ≢ zero_polynomial 𝓚
  right_not_zero p q h e = h (ap (times 𝓚 p) e ∙ Ring.mul-zero (polynomial_ring 𝓚) p)

  -- a non-zero product has at least the degree of its left factor
  pub degree_left : (p q : Polynomial 𝓚) → times 𝓚 p q ≢ zero_polynomial 𝓚 → degree 𝓚 p ≤ degree 𝓚 (times 𝓚 p q)
  degree_left p q h = omega (arith, Degree.degree_times 𝓚 p q (left_not_zero p q h) (right_not_zero p q h))

  -- a unit is not 0
  pub unit_not_zero : (u : Polynomial 𝓚) → IsUnit (polynomial_ring 𝓚) u → u ≢ zero_polynomial 𝓚
  unit_not_zero u (w, e) = left_not_zero u w (λ z. Degree.one_not_zero_polynomial 𝓚 (sym e ∙ z))

  -- a unit has degree 0
  pub unit_degree : (u : Polynomial 𝓚) → IsUnit (polynomial_ring 𝓚) u → degree 𝓚 u ≡ 0
  unit_degree u (w, e) =
      let h : degree 𝓚 u ≤ degree 𝓚 (times 𝓚 u w) = degree_left u w (λ z. Degree.one_not_zero_polynomial 𝓚 (sym e ∙ z)) in
      omega (arith, h, ap (degree 𝓚) e, Degree.degree_one 𝓚)

  -- every constant but 0 is a unit
  pub constant_unit : (c : K) → c ≢ 𝟘 → IsUnit (polynomial_ring 𝓚) (monomial 𝓚 c 0)
  unfolding one_polynomial
  constant_unit c h = (monomial 𝓚 d 0, extensional 𝓚 _ _ (λ i. coefficient_scale 𝓚 c (monomial 𝓚 d 0) i ∙ go i))
    where
      d : K
      d = (𝓚.inverse c h).0

      go : (i : ℕ) → c ⊙ (monomial 𝓚 d 0).coefficient i ≡ (monomial 𝓚 𝟙 0).coefficient i
      go zero = ap (λ x. c ⊙ x) (coefficient_monomial 𝓚 d 0) ∙ (𝓚.inverse c h).1 ∙ sym (coefficient_monomial 𝓚 𝟙 0)
      go (suc i) =
          ap (λ x. c ⊙ x) (coefficient_monomial_other 𝓚 d 0 (suc i) (omega arith)) ∙ Ring.mul-zero 𝓚.ring c
          ∙ sym (coefficient_monomial_other 𝓚 𝟙 0 (suc i) (omega arith))

  -- constants are equal when their leading coefficients are
  pub constants_equal : (p q : Polynomial 𝓚) → degree 𝓚 p ≡ 0 → degree 𝓚 q ≡ 0 → leading 𝓚 p ≡ leading 𝓚 q → p ≡ q
  unfolding leading
  constants_equal p q hp hq e = extensional 𝓚 p q go
    where
      go : (i : ℕ) → p.coefficient i ≡ q.coefficient i
      go zero = ap p.coefficient (sym hp) ∙ e ∙ ap q.coefficient hq
      go (suc i) = Degree.above_degree 𝓚 p (suc i) (omega arith) ∙ sym (Degree.above_degree 𝓚 q (suc i) (omega arith))

  -- polynomials other than 0 of degree 0 are units
  pub degree_unit : (p : Polynomial 𝓚) → p ≢ zero_polynomial 𝓚 → degree 𝓚 p ≡ 0 → IsUnit (polynomial_ring 𝓚) p
  degree_unit p h d = subst (IsUnit (polynomial_ring 𝓚)) constant (constant_unit (leading 𝓚 p) (Degree.leading_not_zero 𝓚 p h))
    where
      constant : monomial 𝓚 (leading 𝓚 p) 0 ≡ p
      constant =
          constants_equal (monomial 𝓚 (leading 𝓚 p) 0) p (Degree.degree_monomial 𝓚 (leading 𝓚 p) 0 (Degree.leading_not_zero 𝓚 p h)) d
          (Degree.leading_monomial 𝓚 (leading 𝓚 p) 0 (Degree.leading_not_zero 𝓚 p h))

  -- monic says that the leading coefficient is 1
  pub monic_leading : (p : Polynomial 𝓚) → monic 𝓚 p ≡ true → leading 𝓚 p ≡ 𝟙
  monic_leading p = elim (𝓚.equal (leading 𝓚 p) 𝟙) as (λ d. ite d true false ≡ true → leading 𝓚 p ≡ 𝟙) [ yes e ↦ λ _. e | no _ ↦ λ e. absurd (false≢true e) ]

  -- and back
  pub leading_monic : (p : Polynomial 𝓚) → leading 𝓚 p ≡ 𝟙 → monic 𝓚 p ≡ true
  leading_monic p e = if_pos (𝓚.equal (leading 𝓚 p) 𝟙) e true false

  -- a monic polynomial is not 0
  pub monic_not_zero : (p : Polynomial 𝓚) → leading 𝓚 p ≡ 𝟙 → p ≢ zero_polynomial 𝓚
  unfolding leading
  monic_not_zero p e z = 𝓚.one_not_zero (sym e ∙ ap (λ (q : Polynomial 𝓚). q.coefficient (degree 𝓚 p)) z ∙ coefficient_zero 𝓚 (degree 𝓚 p))
