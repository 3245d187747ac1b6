-- The degree of the polynomial of a word is the place of its highest bit. Assumes nothing.
use Rattle.std.specs.Prelude.{◌≡◌, ℕ, suc, ◌%◌, ◌^◌, ◌<◌, true, refl}
use Rattle.std.proofs.Common.{sym, ap, ◌∙◌, subst, arith}
use Rattle.std.proofs.Math.Nat as Nat
use Rattle.algebra.specs.Divisibility.{IsUnit}
use Rattle.algebra.proofs.Primes.{normal_unit}
use Rattle.algebra.proofs.Divides.{one_unit}
use Rattle.polynomials.specs.Sequence.{Vanishes}
use Rattle.polynomials.specs.Polynomial.{degree, leading, monic}
use Rattle.polynomials.proofs.Ring.{polynomial_ring}
use Rattle.polynomials.proofs.Degree.{degree_unique}
use Rattle.polynomials.proofs.Euclidean.{polynomial_laws}
use Rattle.polynomials.proofs.Units.{leading_monic}
use Rattle.polynomials.proofs.Words.{from_word_vanishes}
use Rattle.polynomial_domains.specs.PrimeField.{modular}
use Rattle.bit_polys.specs.BitPolys.{bit_field, bit_digits, polynomial_of}
use Rattle.bit_polys.specs.HighestBits.{Top, top_of}
use Rattle.bit_polys.specs.Words.{coefficient_word, same_word, one_stands}

-- a word below 2^n stands for a polynomial of at most n coefficients
pub word_vanishes : (w n : ℕ) → w < 2 ^ n → Vanishes bit_field.ring (polynomial_of w).coefficient n
unfolding bit_digits
word_vanishes w n h = from_word_vanishes bit_field bit_digits w n h

-- the coefficient at the highest bit of a word is 1
pub top_coefficient : (w n : ℕ) → Top w n → (polynomial_of w).coefficient n ≡ bit_field.ring.one
unfolding bit_field
top_coefficient w n t = coefficient_word w n ∙ ap (λ x. modular 2 refl (x % 2)) (Nat.div-eq_of_lt-le {k = 1} (2 ^ n) (omega (arith, t.low)) (omega (arith, t.high)))

-- and the degree is its place
pub word_degree : (w n : ℕ) → Top w n → degree bit_field (polynomial_of w) ≡ n
word_degree w n t = degree_unique bit_field (polynomial_of w) n (word_vanishes w (suc n) (subst (λ x. w < x) (sym (Nat.pow-succ' 2 n)) t.high)) (λ e. bit_field.one_not_zero (sym (top_coefficient w n t) ∙ e))

-- so every word but 0 stands for a monic polynomial
pub word_monic : (w : ℕ) → 0 < w → monic bit_field (polynomial_of w) ≡ true
unfolding leading
word_monic w h =
    let t = top_of w h in
    leading_monic bit_field (polynomial_of w) (ap (polynomial_of w).coefficient (word_degree w t.0 t.1) ∙ top_coefficient w t.0 t.1)

-- only the word 1 stands for a unit
pub unit_one : (w : ℕ) → 0 < w → IsUnit (polynomial_ring bit_field) (polynomial_of w) → w ≡ 1
unit_one w h u = same_word w 1 (normal_unit (polynomial_laws bit_field) (polynomial_of w) u (word_monic w h) ∙ sym one_stands)

-- and it does
pub one_is_unit : IsUnit (polynomial_ring bit_field) (polynomial_of 1)
one_is_unit = subst (IsUnit (polynomial_ring bit_field)) (sym one_stands) (one_unit (polynomial_ring bit_field))
