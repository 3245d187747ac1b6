-- The domains of polynomials over a field: what they mean, once for every field and every way to write its elements as
-- digits. Assumes nothing.
use Rattle.std.specs.Prelude.{Bool, ◌&&◌, ℕ, leb}
use Rattle.algebra.specs.Field.{Field}
use Rattle.domains.specs.Meaning.{Meaning}
use Rattle.polynomials.specs.Polynomial.{Polynomial, degree, monic}
use Rattle.polynomials.specs.Remainder.{remainder}
use Rattle.polynomials.specs.Words.{Digits, from_word, to_word}
use Rattle.polynomials.proofs.Euclidean.{polynomials}

module _ {K : Type 0} (𝓚 : Field K) (d : Digits 𝓚) (n : ℕ) where
  -- the legal moduli are the monic polynomials of degree 1 to n
  abbrev pub legal : Polynomial 𝓚 → Bool
  legal m = monic 𝓚 m && (leb 1 (degree 𝓚 m) && leb (degree 𝓚 m) n)

  -- The domain. The digits of a word are the coefficients, the last digit that of x^0. The size of a polynomial is its
  -- degree, normal is monic, and a remainder is 0 or of lower degree than the modulus.
  abbrev pub polynomial_domain : Meaning
  polynomial_domain = record {
    Element = Polynomial 𝓚;
    euclidean = polynomials 𝓚;
    element = from_word 𝓚 d;
    legal = legal;
    remainder = remainder 𝓚;
    word = to_word 𝓚 d;
  }
