-- Long division of words. Assumes nothing.
use Rattle.std.specs.Prelude.{◌≡◌, ℕ, ◌^◌, ◌<◌}
use Rattle.domains.specs.Answers.{Divided}
use Rattle.domains.specs.Meaning.{residue}
use Rattle.bit_polys.specs.BitPolys.{bit_polys, polynomial_of}

-- quotient q and remainder r of the word a by the word b
pub record LongDivision (a b q r : ℕ) : Type 0 where
  pub divided : Divided bit_polys a b q r
  -- the remainder is the residue of a modulo b
  pub reduced : r ≡ residue bit_polys (polynomial_of b) (polynomial_of a)
  -- and the smaller word
  pub below : r < b
  -- the quotient is no longer than the dividend, where that has 32 bits
  pub short : a < 2 ^ 32 → q < 2 ^ 32
