-- Constants, and the monic multiple of a polynomial. Assumes nothing.
use Rattle.std.proofs.Common.{◌≡◌, ℕ, zero, suc, ◌<◌, true, ◌≢◌, List, ◌∷◌, get_or, sym, ap, ◌∙◌, subst, arith}
use native.Mathlib.Nat as Nat
use Rattle.algebra.specs.Divisibility.{IsUnit}
use Rattle.algebra.specs.Field.{Field}
use Rattle.algebra.proofs.Ring
use Rattle.polynomials.specs.Polynomial.{zero_polynomial, one_polynomial, monomial, times, degree, leading, monic}
use Rattle.polynomials.specs.Words.{Digits, element_zero, from_word, to_word}
use Rattle.polynomials.proofs.Coefficients.{coefficient_monomial, coefficient_monomial_other}
use Rattle.polynomials.proofs.Degree.{leading_times, monomial_not_zero, leading_monomial}
use Rattle.polynomials.proofs.Ring.{polynomial_ring}
use Rattle.polynomials.proofs.Units.{constant_unit, leading_monic}
use Rattle.polynomial_domains.specs.PolynomialDomain.{polynomial_domain}
use Rattle.domains.specs.Answers.{Normalized}
use Rattle.byte_polys.specs.ByteField.{number}
use Rattle.byte_polys.specs.Steps.{Below, ZeroFrom, Added, Top, Normalizer}
use Rattle.byte_polys.specs.Bytes.{Modulo, below_byte, equal_element, zero_bytes, poly_is, number_is}
use Rattle.byte_polys.proofs.Adding.{added_below}
use Rattle.byte_polys.specs.Degrees.{find_top, poly_leading}
use Rattle.byte_polys.proofs.Sums.{zeros_below, multiple_poly}
use Rattle.byte_polys.proofs.Zeros.{Zeros}

-- a constant: its coefficients are below p
pub constant_below : (p u : ℕ) (zs : List ℕ) → u < p → Zeros zs → Below p (u ∷ zs)
constant_below p u zs h z zero = h
constant_below p u zs h z (suc i) = let e = z.each i in omega arith

module _ {K : Type 0} {𝓚 : Field K} {d : Digits 𝓚} {p : ℕ} (L : Modulo 𝓚 d p) where
  -- it is the polynomial u x^0
  pub constant_poly : (u : ℕ) (zs : List ℕ) → u < p → Zeros zs → from_word 𝓚 d (number (u ∷ zs)) ≡ monomial 𝓚 (d.element u) 0
  constant_poly u zs h z = poly_is L (u ∷ zs) _ (constant_below p u zs h z) go
    where
      go : (i : ℕ) → d.element (get_or (u ∷ zs) i 0) ≡ (monomial 𝓚 (d.element u) 0).coefficient i
      go zero = sym (coefficient_monomial 𝓚 (d.element u) 0)
      go (suc i) = ap d.element (z.each i) ∙ element_zero 𝓚 d ∙ sym (coefficient_monomial_other 𝓚 (d.element u) 0 (suc i) (omega arith))

  -- the constant 1 is the word of the polynomial 1
  pub one_number : (u : ℕ) (zs : List ℕ) → u ≡ 1 → u < p → Zeros zs → number (u ∷ zs) ≡ to_word 𝓚 d (one_polynomial 𝓚)
  unfolding one_polynomial
  one_number u zs e h z = number_is L (u ∷ zs) _ (constant_below p u zs h z) (constant_poly u zs h z ∙ ap (λ x. monomial 𝓚 (d.element x) 0) e ∙ ap (λ c. monomial 𝓚 c 0) L.one)

  module _ (cs ys zs : List ℕ) (u : ℕ) (h : Below p cs) (end : ZeroFrom 8 cs) (N : Normalizer p cs u) (zeros : Zeros zs) (start : List ℕ) (none : Zeros start) (a : Added p u 0 8 start cs ys) where
    -- the coefficients of the multiple are below p
    pub multiple_below : Below p ys
    multiple_below = added_below L.positive a (zeros_below L none)

    -- the monic multiple is the product with the unit
    pub monic_product : from_word 𝓚 d (number ys) ≡ times 𝓚 (from_word 𝓚 d (number (u ∷ zs))) (from_word 𝓚 d (number cs))
    monic_product = multiple_poly L a none (below_byte L cs h) end ∙ ap (λ f. times 𝓚 f (from_word 𝓚 d (number cs))) (sym (constant_poly u zs N.below zeros))

    -- of 0 it is 0, by 1
    pub zero_multiple : from_word 𝓚 d (number cs) ≡ zero_polynomial 𝓚 → (number ys ≡ to_word 𝓚 d (zero_polynomial 𝓚)) × (number (u ∷ zs) ≡ to_word 𝓚 d (one_polynomial 𝓚))
    zero_multiple z = (
      number_is L ys _ multiple_below (monic_product ∙ ap (times 𝓚 (from_word 𝓚 d (number (u ∷ zs)))) z ∙ Ring.mul-zero (polynomial_ring 𝓚) _),
      one_number u zs (N.of_zero (λ i l. zero_bytes L cs h z i)) N.below zeros,
    )

    module _ (ne : from_word 𝓚 d (number cs) ≢ zero_polynomial 𝓚) where
      lead_product : 𝓚.ring.mul (d.element u) (leading 𝓚 (from_word 𝓚 d (number cs))) ≡ 𝓚.ring.one
      lead_product =
          ap (𝓚.ring.mul (d.element u)) (poly_leading L cs _ h top)
          ∙ Ring.mul_comm 𝓚.ring _ _
          ∙ sym (L.mul _ _)
          ∙ equal_element L _ 1 (N.product _ top ∙ sym (Nat.mod-eq_of_lt (subst (λ x. x < p) (N.product _ top) (Nat.mod-lt _ L.positive))))
          ∙ L.one
        where
          top : Top cs (degree 𝓚 (from_word 𝓚 d (number cs)))
          top = find_top L cs h end ne

      unit_not_zero : d.element u ≢ 𝓚.ring.zero
      unit_not_zero z = 𝓚.one_not_zero (sym lead_product ∙ ap (λ x. 𝓚.ring.mul x (leading 𝓚 (from_word 𝓚 d (number cs)))) z ∙ Ring.zero-mul 𝓚.ring _)

      pub unit_constant : IsUnit (polynomial_ring 𝓚) (from_word 𝓚 d (number (u ∷ zs)))
      unit_constant = subst (IsUnit (polynomial_ring 𝓚)) (sym (constant_poly u zs N.below zeros)) (constant_unit 𝓚 (d.element u) unit_not_zero)

      pub multiple_monic : monic 𝓚 (from_word 𝓚 d (number ys)) ≡ true
      multiple_monic =
          leading_monic 𝓚 (from_word 𝓚 d (number ys))
          (ap (leading 𝓚) (multiple_poly L a none (below_byte L cs h) end)
          ∙ leading_times 𝓚 (monomial 𝓚 (d.element u) 0) (from_word 𝓚 d (number cs)) (monomial_not_zero 𝓚 (d.element u) 0 unit_not_zero) ne
          ∙ ap (λ x. 𝓚.ring.mul x (leading 𝓚 (from_word 𝓚 d (number cs)))) (leading_monomial 𝓚 (d.element u) 0 unit_not_zero)
          ∙ lead_product)

    -- so it is the normal multiple with its unit, in any domain of these polynomials
    pub normalized : (top : ℕ) → Normalized (polynomial_domain 𝓚 d top) (number cs) (number ys) (number (u ∷ zs))
    normalized top = record {
      of_nonzero = λ ne. record { unit = unit_constant ne; multiple = monic_product; normal = multiple_monic ne };
      of_zero = zero_multiple;
    }
