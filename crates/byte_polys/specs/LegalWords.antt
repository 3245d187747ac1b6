-- What the coefficients of 0, of units and of legal moduli are. Assumes nothing.
use Rattle.std.specs.Prelude.{◌≡◌, ℕ, ◌<◌, true, List, [], refl}
use Rattle.std.proofs.Math.Path.{sym, ap}
use Rattle.std.proofs.Common.{◌∙◌, arith}
use Rattle.algebra.specs.Divisibility.{IsUnit}
use Rattle.algebra.specs.Field.{Field}
use Rattle.polynomials.specs.Polynomial.{zero_polynomial, degree, leading}
use Rattle.polynomials.specs.Words.{Digits, from_word}
use Rattle.polynomials.proofs.Degree.{above_degree}
use Rattle.polynomials.proofs.Ring.{polynomial_ring}
use Rattle.polynomials.proofs.Units.{degree_unit, unit_degree, leading_monic, monic_leading}
use Rattle.polynomial_domains.specs.PolynomialDomain.{legal}
use Rattle.polynomial_domains.proofs.DomainLaws.{legal_is, legal_monic, legal_low, legal_high}
use Rattle.byte_polys.specs.ByteField.{number}
use Rattle.byte_polys.specs.Steps.{Below, Top, Monic}
use Rattle.byte_polys.specs.Bytes.{Modulo, below_equal, coefficient_below, bytes_zero, number_is}
use Rattle.byte_polys.specs.Degrees.{poly_not_zero, poly_degree, poly_leading, vanishes_zero}

-- the highest coefficient of a monic polynomial is not 0
monic_top : {cs : List ℕ} {n : ℕ} → Monic cs n → Top cs n
monic_top m = record { short = let h = m.high in omega arith; some = λ z. let o = m.one in omega arith; above = m.above }

module _ {K : Type 0} {𝓚 : Field K} {d : Digits 𝓚} {p : ℕ} (L : Modulo 𝓚 d p) where
  -- the number 0 stands for the polynomial 0
  pub number_zero : (cs : List ℕ) → number cs ≡ 0 → from_word 𝓚 d (number cs) ≡ zero_polynomial 𝓚
  unfolding number
  number_zero cs e = ap (from_word 𝓚 d) e ∙ bytes_zero L [] (λ i. refl)

  -- and only that
  pub zero_number : (cs : List ℕ) → Below p cs → from_word 𝓚 d (number cs) ≡ zero_polynomial 𝓚 → number cs ≡ 0
  unfolding number
  zero_number cs h e = number_is L cs _ h e ∙ sym (number_is L [] _ (λ i. L.positive) (bytes_zero L [] (λ i. refl)))

  module _ (cs : List ℕ) (h : Below p cs) where
    -- a polynomial with a highest coefficient is a unit exactly when that is at x^0
    pub top_unit : (n : ℕ) → Top cs n → n ≡ 0 → IsUnit (polynomial_ring 𝓚) (from_word 𝓚 d (number cs))
    top_unit n t e = degree_unit 𝓚 _ (poly_not_zero L cs n h t) (poly_degree L cs n h t ∙ e)

    -- and a unit has no higher one
    pub unit_top : (n : ℕ) → Top cs n → IsUnit (polynomial_ring 𝓚) (from_word 𝓚 d (number cs)) → n ≡ 0
    unit_top n t u = sym (poly_degree L cs n h t) ∙ unit_degree 𝓚 _ u

    -- a polynomial is legal exactly when its highest coefficient is 1, at x^1 to x^7
    pub monic_legal : (n : ℕ) → Monic cs n → legal 𝓚 d 7 (from_word 𝓚 d (number cs)) ≡ true
    monic_legal n m =
        let t = monic_top m in
        let same = poly_degree L cs n h t in
        legal_is 𝓚 d 7 (from_word 𝓚 d (number cs)) (leading_monic 𝓚 _ (poly_leading L cs n h t ∙ ap d.element m.one ∙ L.one)) (omega arith) (omega arith)

    -- and a legal polynomial has such a list
    pub legal_top : 1 < p → legal 𝓚 d 7 (from_word 𝓚 d (number cs)) ≡ true → Monic cs (degree 𝓚 (from_word 𝓚 d (number cs)))
    unfolding leading
    legal_top large l = record {
      low = legal_low 𝓚 d 7 (from_word 𝓚 d (number cs)) l;
      high = legal_high 𝓚 d 7 (from_word 𝓚 d (number cs)) l;
      one = below_equal L _ 1 (h _) large (sym (coefficient_below L cs h _) ∙ monic_leading 𝓚 (from_word 𝓚 d (number cs)) (legal_monic 𝓚 d 7 (from_word 𝓚 d (number cs)) l) ∙ sym L.one);
      above = vanishes_zero L cs _ h (λ i k. above_degree 𝓚 (from_word 𝓚 d (number cs)) i (omega arith));
    }
