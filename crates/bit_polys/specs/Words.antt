-- The polynomials of words: exclusive or adds, and a shift multiplies by a power of x. Assumes nothing.
use Rattle.std.specs.Prelude.{◌≡◌, ℕ, ◌+◌, ◌*◌, ◌/◌, ◌%◌, ◌^◌, bit_xor, unsigned_abs, refl}
use Rattle.std.proofs.Common.{sym, ap, ap₂, ◌∙◌, arith}
use Rattle.std.proofs.Math.Nat as Nat
use Rattle.std.proofs.lemmas.Nat.{xor_shr}
use Rattle.std.specs.Int.Bits.{xor_add_and}
use Rattle.algebra.proofs.Ring
use Rattle.polynomials.specs.Polynomial.{zero_polynomial, one_polynomial, monomial, plus, negative, times}
use Rattle.polynomials.specs.Words.{to_word}
use Rattle.polynomials.proofs.Equality.{extensional}
use Rattle.polynomials.proofs.Coefficients.{coefficient_plus, coefficient_zero}
use Rattle.polynomials.proofs.Ring.{polynomial_ring}
use Rattle.polynomials.proofs.Words.{coefficient_from_word, digit_power, from_word_step, to_word_from_word}
use Rattle.polynomials.proofs.Shifts.{from_word_zero, from_word_shift}
use Rattle.polynomial_domains.specs.PrimeField.{modular, modular_number}
use Rattle.polynomial_domains.proofs.PrimeField.{modular_add, equal_modular}
use Rattle.bit_polys.specs.BitPolys.{Bit, bit_field, bit_digits, BitPolynomial, polynomial_of}

-- the coefficients of the polynomial of a word are its bits
pub coefficient_word : (w i : ℕ) → (polynomial_of w).coefficient i ≡ modular 2 refl (w / 2 ^ i % 2)
unfolding bit_field bit_digits
coefficient_word w i = coefficient_from_word bit_field bit_digits w i ∙ ap (modular 2 refl) (digit_power 2 w i)

-- bits add modulo 2
pub bits_add : (m n k : ℕ) → (m + n) % 2 ≡ k % 2 → bit_field.ring.add (modular 2 refl m) (modular 2 refl n) ≡ modular 2 refl k
unfolding bit_field
bits_add m n k e = modular_add 2 refl m n ∙ equal_modular 2 refl (m + n) k e

-- exclusive or adds the polynomials of two words
pub xor_adds : (v w : ℕ) → polynomial_of (bit_xor v w) ≡ plus bit_field (polynomial_of v) (polynomial_of w)
xor_adds v w = extensional bit_field _ _ (λ i. coefficient_word (bit_xor v w) i ∙ sym (coefficient_plus bit_field (polynomial_of v) (polynomial_of w) i ∙ ap₂ bit_field.ring.add (coefficient_word v i) (coefficient_word w i) ∙ bits_add (v / 2 ^ i % 2) (w / 2 ^ i % 2) (bit_xor v w / 2 ^ i % 2) (parity i)))
  where
    parity : (i : ℕ) → (v / 2 ^ i % 2 + w / 2 ^ i % 2) % 2 ≡ bit_xor v w / 2 ^ i % 2 % 2
    parity i =
        let x = xor_shr v w i in
        let y = xor_add_and (v / 2 ^ i) (w / 2 ^ i) in
        omega arith

-- a bit plus itself is 0
bit_double : (a : Bit) → bit_field.ring.add a a ≡ bit_field.ring.zero
unfolding bit_field
bit_double a = ap (λ x. bit_field.ring.add x x) (sym (modular_number 2 refl a)) ∙ bits_add (unsigned_abs a.0) (unsigned_abs a.0) 0 (omega arith)

-- and so is a polynomial plus itself
pub double : (p : BitPolynomial) → plus bit_field p p ≡ zero_polynomial bit_field
double p = extensional bit_field _ _ (λ i. coefficient_plus bit_field p p i ∙ bit_double (p.coefficient i) ∙ sym (coefficient_zero bit_field i))

-- so a polynomial is its own negative
pub own_negative : (p : BitPolynomial) → negative bit_field p ≡ p
own_negative p = sym (Ring.neg_unique (polynomial_ring bit_field) p p (double p))

-- every word is the canonical one of its polynomial
pub word_of_polynomial : (w : ℕ) → to_word bit_field bit_digits (polynomial_of w) ≡ w
unfolding bit_field bit_digits
word_of_polynomial w = to_word_from_word bit_field bit_digits w (λ i. ap (λ x. x % 2) (digit_power 2 w i) ∙ omega arith ∙ sym (digit_power 2 w i))

-- different words stand for different polynomials
pub same_word : (v w : ℕ) → polynomial_of v ≡ polynomial_of w → v ≡ w
same_word v w e = sym (word_of_polynomial v) ∙ ap (to_word bit_field bit_digits) e ∙ word_of_polynomial w

-- the word 0 stands for 0
pub zero_stands : polynomial_of 0 ≡ zero_polynomial bit_field
zero_stands = from_word_zero bit_field bit_digits

-- and no other word does
pub zero_only : (w : ℕ) → polynomial_of w ≡ zero_polynomial bit_field → w ≡ 0
zero_only w e = same_word w 0 (e ∙ sym zero_stands)

-- the word 1 stands for 1
pub one_stands : polynomial_of 1 ≡ one_polynomial bit_field
unfolding bit_field bit_digits one_polynomial
one_stands =
    sym (from_word_step bit_field bit_digits 1)
    ∙ ap (λ p. plus bit_field (one_polynomial bit_field) (times bit_field (monomial bit_field bit_field.ring.one 1) p)) zero_stands
    ∙ ap (plus bit_field (one_polynomial bit_field)) (Ring.mul-zero (polynomial_ring bit_field) _)
    ∙ Ring.add-zero (polynomial_ring bit_field) _

-- a shift by k places multiplies by x^k
pub shift_multiplies : (w k : ℕ) → polynomial_of (w * 2 ^ k) ≡ times bit_field (monomial bit_field bit_field.ring.one k) (polynomial_of w)
unfolding bit_digits
shift_multiplies w k = from_word_shift bit_field bit_digits w k

-- so the word 2^k stands for x^k
pub power_stands : (k : ℕ) → polynomial_of (2 ^ k) ≡ monomial bit_field bit_field.ring.one k
power_stands k =
    ap polynomial_of (sym (Nat.one-mul (2 ^ k)))
    ∙ shift_multiplies 1 k
    ∙ ap (times bit_field (monomial bit_field bit_field.ring.one k)) one_stands
    ∙ Ring.mul-one (polynomial_ring bit_field) _

-- the canonical word of 0 is 0
pub zero_word : to_word bit_field bit_digits (zero_polynomial bit_field) ≡ 0
zero_word = ap (to_word bit_field bit_digits) (sym zero_stands) ∙ word_of_polynomial 0

-- and that of 1 is 1
pub one_word : to_word bit_field bit_digits (one_polynomial bit_field) ≡ 1
one_word = ap (to_word bit_field bit_digits) (sym one_stands) ∙ word_of_polynomial 1
