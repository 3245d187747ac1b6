-- The degree and the leading coefficient of a polynomial, read off its list of coefficients. Assumes nothing.
use Rattle.std.specs.Prelude.{◌≡◌, ℕ, ◌+◌, ◌*◌, ◌%◌, ◌≢◌, List, slice_index}
use Rattle.std.proofs.Common.{sym, ◌∙◌, arith}
use Rattle.std.proofs.Math.Path.{ap}
use Rattle.std.proofs.Math.Nat as Nat
use Rattle.algebra.specs.Field.{Field}
use Rattle.algebra.specs.Euclidean.{Division}
use Rattle.polynomials.specs.Sequence.{Vanishes}
use Rattle.polynomials.specs.Polynomial.{zero_polynomial, plus, times, degree, leading}
use Rattle.polynomials.specs.Remainder.{remainder}
use Rattle.polynomials.specs.Words.{Digits, element_zero, from_word}
use Rattle.polynomials.proofs.Degree.{degree_unique, degree_below, above_degree, coefficient_not_zero, leading_not_zero}
use Rattle.polynomials.proofs.Euclidean.{polynomials}
use Rattle.polynomials.proofs.Remainder.{smaller_degree, division_remainder}
use Rattle.byte_polys.specs.ByteField.{number}
use Rattle.byte_polys.specs.Steps.{Below, ZeroFrom, Top, Divisor}
use Rattle.byte_polys.specs.Bytes.{Modulo, coefficient_below, below_zero}

-- the highest coefficient of a divisor is not 0, since it has an inverse
pub divisor_top : {p : ℕ} {b : List ℕ} {n inverse : ℕ} → Divisor p b n inverse → Top b n
divisor_top {p} {b} {n} {inverse} D = record {
  short = D.short;
  some = λ z.
      let none : (slice_index b n * inverse) % p ≡ 0 = ap (λ x. (x * inverse) % p) z ∙ ap (λ x. x % p) (Nat.zero-mul inverse) ∙ Nat.zero-mod p in
      let one = D.product in
      omega arith;
  above = D.above;
}

module _ {K : Type 0} {𝓚 : Field K} {d : Digits 𝓚} {p : ℕ} (L : Modulo 𝓚 d p) where
  -- from x^n on there are no coefficients
  pub zero_vanishes : (b : List ℕ) (n : ℕ) → Below p b → ZeroFrom n b → Vanishes 𝓚.ring (from_word 𝓚 d (number b)).coefficient n
  zero_vanishes b n h z i l = coefficient_below L b h i ∙ ap d.element (z i l) ∙ element_zero 𝓚 d

  -- where there are none, the coefficients are 0
  pub vanishes_zero : (b : List ℕ) (n : ℕ) → Below p b → Vanishes 𝓚.ring (from_word 𝓚 d (number b)).coefficient n → ZeroFrom n b
  vanishes_zero b n h v i l = below_zero L (slice_index b i) (h i) (sym (coefficient_below L b h i) ∙ v i l)

  module _ (b : List ℕ) (n : ℕ) (h : Below p b) (t : Top b n) where
    -- the highest coefficient of a list is one of its polynomial
    top_not_zero : (from_word 𝓚 d (number b)).coefficient n ≢ 𝓚.ring.zero
    top_not_zero z = t.some (below_zero L (slice_index b n) (h n) (sym (coefficient_below L b h n) ∙ z))

    -- a list with a highest coefficient is not the polynomial 0
    pub poly_not_zero : from_word 𝓚 d (number b) ≢ zero_polynomial 𝓚
    poly_not_zero = coefficient_not_zero 𝓚 _ n top_not_zero

    -- its degree is the place of that coefficient
    pub poly_degree : degree 𝓚 (from_word 𝓚 d (number b)) ≡ n
    poly_degree = degree_unique 𝓚 _ n (λ i l. zero_vanishes b (n + 1) h t.above i (omega arith)) top_not_zero

    -- its leading coefficient is that coefficient
    pub poly_leading : leading 𝓚 (from_word 𝓚 d (number b)) ≡ d.element (slice_index b n)
    unfolding leading
    poly_leading = ap (from_word 𝓚 d (number b)).coefficient poly_degree ∙ coefficient_below L b h n

    -- quotient and remainder
    pub list_division : (start quotient rest : List ℕ) → Below p rest → ZeroFrom n rest
        → from_word 𝓚 d (number start) ≡ plus 𝓚 (times 𝓚 (from_word 𝓚 d (number quotient)) (from_word 𝓚 d (number b))) (from_word 𝓚 d (number rest))
        → Division (polynomials 𝓚) (from_word 𝓚 d (number start)) (from_word 𝓚 d (number b)) (from_word 𝓚 d (number quotient)) (from_word 𝓚 d (number rest))
    list_division start quotient rest hr z e = record {
      sum = e;
      small = smaller_degree 𝓚 (from_word 𝓚 d (number b)) (from_word 𝓚 d (number rest)) (λ i l. zero_vanishes rest n hr z i (omega (arith, poly_degree)));
    }

    -- the rest is the remainder
    pub list_remainder : (start quotient rest : List ℕ) → Below p rest → ZeroFrom n rest
        → from_word 𝓚 d (number start) ≡ plus 𝓚 (times 𝓚 (from_word 𝓚 d (number quotient)) (from_word 𝓚 d (number b))) (from_word 𝓚 d (number rest))
        → remainder 𝓚 (from_word 𝓚 d (number b)) (from_word 𝓚 d (number start)) ≡ from_word 𝓚 d (number rest)
    list_remainder start quotient rest hr z e = division_remainder 𝓚 (from_word 𝓚 d (number b)) poly_not_zero _ _ _ (list_division start quotient rest hr z e)

  -- eight coefficients that are not the polynomial 0 have a highest one
  pub find_top : (b : List ℕ) → Below p b → ZeroFrom 8 b → from_word 𝓚 d (number b) ≢ zero_polynomial 𝓚 → Top b (degree 𝓚 (from_word 𝓚 d (number b)))
  unfolding leading
  find_top b h z ne = record {
    short = degree_below 𝓚 (from_word 𝓚 d (number b)) 8 ne (zero_vanishes b 8 h z);
    some = λ e. leading_not_zero 𝓚 (from_word 𝓚 d (number b)) ne (coefficient_below L b h _ ∙ ap d.element e ∙ element_zero 𝓚 d);
    above = vanishes_zero b _ h (λ i l. above_degree 𝓚 (from_word 𝓚 d (number b)) i (omega arith));
  }
