use Rattle.std.proofs.Common.{ap, rules}
use Rattle.bit_polys.specs.BitPolys.{polynomial_of}
use Rattle.bit_polys.proofs.squarefree.BitPolysPolynomials.remainder.Goals as goal

-- the remainder of the division
pub returns : goal.returns
returns c = record {
  by_nonzero = λ nonzero. let division = c.quotient_and_remainder.ensures.by_nonzero nonzero in search rules;
  by_zero = λ zero. let rest = ap polynomial_of (c.quotient_and_remainder.ensures.by_zero zero).1 in search rules;
}
