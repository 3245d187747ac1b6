-- GF(p) for a listed p, its elements as bytes, and the domain of its polynomials. Assumes nothing.
use Rattle.std.specs.Prelude.{◌≡◌, ℕ, ◌+◌, ◌*◌, ◌≤◌, true, List, [], ◌∷◌, Bool, if◌then◌else◌}
use Rattle.std.proofs.Common.{arith}
use Rattle.algebra.specs.Field.{Field}
use Rattle.domains.specs.Meaning.{Meaning}
use Rattle.polynomials.specs.Polynomial.{Polynomial, zero_polynomial}
use Rattle.polynomials.specs.Words.{Digits, from_word}
use Rattle.polynomial_domains.specs.PerfectField.{PerfectField}
use Rattle.polynomial_domains.specs.PolynomialDomain.{polynomial_domain}
use Rattle.polynomial_domains.specs.PrimeField.{Modular, prime_field, prime_digits}
use Rattle.polynomial_domains.proofs.PrimeField.{prime_perfect}
use Rattle.byte_polys.specs.Listed.{listed, listed_prime, listed_high}

-- the number whose bytes are those of a list, the lowest first
unfoldable pub number : List ℕ → ℕ
number [] = 0
number (c ∷ cs) = number cs * 256 + c

module _ (p : ℕ) (h : listed p ≡ true) where
  -- the field of the residues modulo p
  abbrev pub field : Field (Modular p (listed_prime p h))
  field = prime_field p (listed_prime p h)

  -- it is perfect
  abbrev pub byte_scalars : PerfectField
  byte_scalars = record { Scalar = Modular p (listed_prime p h); field = field; perfect = prime_perfect p (listed_prime p h) }

  -- each byte stands for its residue
  abbrev pub byte_digits : Digits field
  byte_digits = prime_digits p (listed_prime p h) 256 (let high : p ≤ 251 = listed_high p h in omega arith)

  -- The domain: byte i of a word stands for the coefficient of x^i, and the legal moduli are the monic polynomials of
  -- degree 1 to 7.
  unfoldable pub byte_polys : Meaning
  byte_polys = polynomial_domain field byte_digits 7

  -- the polynomial whose coefficients are the bytes of a list, that of x^0 first
  abbrev pub poly : List ℕ → byte_polys.Element
  poly cs = byte_polys.element (number cs)

  -- the polynomial that coefficients of the field's own stand for; any other ones stand for 0
  abbrev pub polynomial_of : Bool → List ℕ → Polynomial field
  polynomial_of own cs = if own then from_word field byte_digits (number cs) else zero_polynomial field
