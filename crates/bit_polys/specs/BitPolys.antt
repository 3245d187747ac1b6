-- What the domain of polynomials over GF(2) means. Assumes nothing.
use Rattle.std.specs.Prelude.{ℕ, refl}
use Rattle.std.proofs.Common.{lit≤}
use Rattle.algebra.specs.Field.{Field}
use Rattle.domains.specs.Meaning.{Meaning}
use Rattle.polynomials.specs.Polynomial.{Polynomial}
use Rattle.polynomials.specs.Words.{Digits, from_word}
use Rattle.polynomials.specs.Perfect.{Perfect}
use Rattle.polynomial_domains.specs.PerfectField.{PerfectField}
use Rattle.polynomial_domains.specs.PolynomialDomain.{polynomial_domain}
use Rattle.polynomial_domains.specs.PrimeField.{Modular, prime_field, prime_digits}
use Rattle.polynomial_domains.proofs.PrimeField.{prime_perfect}

-- the elements of GF(2): the residues of whole numbers modulo 2
abbrev pub Bit : Type 0
Bit = Modular 2 refl

-- the field GF(2)
unfoldable pub bit_field : Field Bit
bit_field = prime_field 2 refl

-- every element is a square
pub bit_perfect : Perfect bit_field
unfolding bit_field
bit_perfect = prime_perfect 2 refl

-- so GF(2) is perfect
abbrev pub bit_scalars : PerfectField
bit_scalars = record { Scalar = Bit; field = bit_field; perfect = bit_perfect }

-- its elements as binary digits: the digit 0 stands for 0, the digit 1 for 1
unfoldable pub bit_digits : Digits bit_field
unfolding bit_field
bit_digits = prime_digits 2 refl 2 (lit≤ tt)

-- the polynomials over GF(2)
abbrev pub BitPolynomial : Type 0
BitPolynomial = Polynomial bit_field

-- the polynomial that a word stands for: bit i of the word is the coefficient of x^i
abbrev pub polynomial_of : ℕ → BitPolynomial
polynomial_of = from_word bit_field bit_digits

-- The domain. Its elements are all polynomials over GF(2), the size of a polynomial is its degree, and normal are the
-- monic ones, which are all but 0. The legal moduli are the polynomials of degree 1 to 31, so that a remainder fits 31
-- bits and a modulus 32.
abbrev pub bit_polys : Meaning
bit_polys = polynomial_domain bit_field bit_digits 31
