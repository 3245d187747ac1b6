-- The field of polynomials modulo an irreducible one. Assumes nothing.
use Rattle.algebra.specs.Field.{Field}
use Rattle.algebra.specs.Divisibility.{Irreducible}
use Rattle.algebra.specs.Residues.{Residue}
use Rattle.algebra.proofs.Residues.{residue_field}
use Rattle.polynomials.specs.Polynomial.{Polynomial}
use Rattle.polynomials.proofs.Ring.{polynomial_ring}
use Rattle.polynomials.proofs.Euclidean.{polynomial_laws}
use Rattle.polynomials.proofs.Remainder.{remainders}

module _ {K : Type 0} (𝓚 : Field K) (m : Polynomial 𝓚) (h : Irreducible (polynomial_ring 𝓚) m) where
  -- its elements are the polynomials of smaller degree than m, and 0
  abbrev pub Quotient : Type 0
  Quotient = Residue (polynomial_ring 𝓚) m (remainders 𝓚 m h.not_zero)

  abbrev pub quotient_field : Field Quotient
  quotient_field = residue_field (polynomial_laws 𝓚) m h (remainders 𝓚 m h.not_zero)
