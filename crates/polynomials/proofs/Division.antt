-- Division of polynomials with remainder, by any polynomial but 0. Assumes nothing.
use mathlib.Core.Path.{◌≡◌, sym, ap, ap₂, ◌∙◌, subst}
use mathlib.Core.Logic.{◌≢◌, inl, inr, ite, dite}
use Prim.Native.Nat.{ℕ, zero, suc, ◌≤◌, ◌-◌}
use native.Mathlib.Nat.{sub-add_cancel, eq-or-lt_of_le}
use native.Mathlib.Decide.{dec_le}
use native.Mathlib.Omega.{arith}
use Rattle.algebra.specs.Field.{Field}
use Rattle.algebra.specs.Divisibility.{minus}
use Rattle.algebra.proofs.Ring
use Rattle.polynomials.specs.Sequence.{Vanishes}
use Rattle.polynomials.specs.Polynomial.{Polynomial, zero_polynomial, plus, times, degree, leading}
use Rattle.polynomials.specs.Remainder.{reciprocal, factor, reduce, reduce_below, remainder}
use Rattle.polynomials.proofs.Coefficients.{times_vanishes, coefficient_shift}
use Rattle.polynomials.proofs.Ring.{polynomial_ring, coefficient_minus}
use Rattle.polynomials.proofs.Degree.{above_degree, leading_not_zero, monomial_above}

-- a times 1/a is 1, unless a is 0
pub reciprocal_product : {K : Type 0} (𝓚 : Field K) (a : K) → a ≢ 𝓚.ring.zero → 𝓚.ring.mul a (reciprocal 𝓚 a) ≡ 𝓚.ring.one
unfolding reciprocal
reciprocal_product 𝓚 a h =
    elim (𝓚.equal a 𝓚.ring.zero) as (λ d. 𝓚.ring.mul a (dite d (λ _. 𝓚.ring.zero) (λ k. (𝓚.inverse a k).0)) ≡ 𝓚.ring.one) [
      | yes e ↦ absurd (h e)
      | no k ↦ (𝓚.inverse a k).1
    ]

module _ {K : Type 0} (𝓚 : Field K) (m : Polynomial 𝓚) where
  open 𝓚.ring use {mul as ◌⊙◌, zero as 𝟘}

  infixl 70 ◌⊙◌
  -- with the quotient 0 nothing is taken away
  none : (p : Polynomial 𝓚) → p ≡ plus 𝓚 (times 𝓚 (zero_polynomial 𝓚) m) p
  none p = sym (ap (λ x. plus 𝓚 x p) (Ring.zero-mul (polynomial_ring 𝓚) m) ∙ Ring.zero-add (polynomial_ring 𝓚) p)

  -- one step takes the factor times m away
  more : (n : ℕ) (p q r : Polynomial 𝓚) → reduce 𝓚 m n p ≡ plus 𝓚 (times 𝓚 q m) r → p ≡ plus 𝓚 (times 𝓚 (plus 𝓚 q (factor 𝓚 m n p)) m) r
  unfolding reduce
  more n p q r e =
      Ring.eq_sub (polynomial_ring 𝓚) p (times 𝓚 (factor 𝓚 m n p) m) (plus 𝓚 (times 𝓚 q m) r) e
      ∙ simp (Ring.add_mul (polynomial_ring 𝓚), Ring.add_assoc (polynomial_ring 𝓚), Ring.add_left_comm (polynomial_ring 𝓚))

  -- what long division leaves differs from p by a multiple of m
  reduced_sum : (n : ℕ) (p : Polynomial 𝓚) → (q : Polynomial 𝓚) × (p ≡ plus 𝓚 (times 𝓚 q m) (reduce_below 𝓚 m n p))
  unfolding reduce_below
  reduced_sum zero p = (zero_polynomial 𝓚, none p)
  reduced_sum (suc n) p =
      elim (dec_le (degree 𝓚 m) n) as (λ d. (q : Polynomial 𝓚) × (p ≡ plus 𝓚 (times 𝓚 q m) (ite d (reduce_below 𝓚 m n (reduce 𝓚 m n p)) p))) [
        | yes _ ↦ let (q, e) = reduced_sum n (reduce 𝓚 m n p) in (plus 𝓚 q (factor 𝓚 m n p), more n p q _ e)
        | no _ ↦ (zero_polynomial 𝓚, none p)
      ]

  -- the quotient of p by m, and the remainder
  pub quotient_remainder : (p : Polynomial 𝓚) → (q : Polynomial 𝓚) × (p ≡ plus 𝓚 (times 𝓚 q m) (remainder 𝓚 m p))
  unfolding remainder
  quotient_remainder p = reduced_sum p.bound p

  module _ (m_not_zero : m ≢ zero_polynomial 𝓚) where
    -- the product of m and the factor has no coefficient above x^n,
    factor_above : (n : ℕ) (p : Polynomial 𝓚) → degree 𝓚 m ≤ n → Vanishes 𝓚.ring (times 𝓚 (factor 𝓚 m n p) m).coefficient (suc n)
    unfolding factor
    factor_above n p h i k = times_vanishes 𝓚 (suc (n - degree 𝓚 m)) (suc (degree 𝓚 m)) _ m (monomial_above 𝓚 _ (n - degree 𝓚 m)) (above_degree 𝓚 m) i (omega arith)

    -- and there that of p
    factor_at : (n : ℕ) (p : Polynomial 𝓚) → degree 𝓚 m ≤ n → (times 𝓚 (factor 𝓚 m n p) m).coefficient n ≡ p.coefficient n
    unfolding factor leading
    factor_at n p h =
        ap (times 𝓚 (factor 𝓚 m n p) m).coefficient (sym (sub-add_cancel h))
        ∙ coefficient_shift 𝓚 _ (n - degree 𝓚 m) m (degree 𝓚 m)
        ∙ Ring.mul_assoc 𝓚.ring _ _ _
        ∙ ap (λ x. p.coefficient n ⊙ x) (Ring.mul_comm 𝓚.ring _ _ ∙ reciprocal_product 𝓚 (leading 𝓚 m) (leading_not_zero 𝓚 m m_not_zero))
        ∙ Ring.mul-one 𝓚.ring (p.coefficient n)

    -- so a reduced polynomial has one coefficient less
    reduce_vanishes : (n : ℕ) (p : Polynomial 𝓚) → degree 𝓚 m ≤ n → Vanishes 𝓚.ring p.coefficient (suc n) → Vanishes 𝓚.ring (reduce 𝓚 m n p).coefficient n
    unfolding reduce
    reduce_vanishes n p h v i k =
        coefficient_minus 𝓚 p (times 𝓚 (factor 𝓚 m n p) m) i
        ∙ elim (eq-or-lt_of_le k) [
          | inl e ↦ subst (λ j. minus 𝓚.ring (p.coefficient j) ((times 𝓚 (factor 𝓚 m n p) m).coefficient j) ≡ 𝟘) e
              (ap (minus 𝓚.ring (p.coefficient n)) (factor_at n p h) ∙ Ring.sub_self 𝓚.ring (p.coefficient n))
          | inr l ↦ ap₂ (minus 𝓚.ring) (v i l) (factor_above n p h i l) ∙ Ring.sub_self 𝓚.ring 𝟘
        ]

    -- and long division leaves no coefficients from the degree of m on
    reduced_small : (n : ℕ) (p : Polynomial 𝓚) → Vanishes 𝓚.ring p.coefficient n → Vanishes 𝓚.ring (reduce_below 𝓚 m n p).coefficient (degree 𝓚 m)
    unfolding reduce_below
    reduced_small zero p v = λ i h. v i (omega arith)
    reduced_small (suc n) p v =
        elim (dec_le (degree 𝓚 m) n) as (λ d. Vanishes 𝓚.ring (ite d (reduce_below 𝓚 m n (reduce 𝓚 m n p)) p).coefficient (degree 𝓚 m)) [
          | yes h ↦ reduced_small n (reduce 𝓚 m n p) (reduce_vanishes n p h v)
          | no h ↦ λ i k. v i (omega arith)
        ]

    -- the remainder has none
    pub remainder_small : (p : Polynomial 𝓚) → Vanishes 𝓚.ring (remainder 𝓚 m p).coefficient (degree 𝓚 m)
    unfolding remainder
    remainder_small p = reduced_small p.bound p p.beyond
