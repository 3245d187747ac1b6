-- The words of the moduli. Assumes nothing.
use Rattle.std.specs.Prelude.{ℕ, ◌^◌, ◌<◌, ◌≤◌, Bool, ◌&&◌, nat_le}
use Rattle.algebra.specs.Divisibility as Divisibility
use Rattle.polynomials.proofs.Ring.{polynomial_ring}
use Rattle.bit_polys.specs.BitPolys.{bit_field, polynomial_of}

-- the words from 2 to 2^32 − 1, which stand for the polynomials of degree 1 to 31
abbrev pub in_range : ℕ → Bool
in_range w = nat_le 2 w && nat_le w 0xffff_ffff

-- no square of a polynomial but the units divides the polynomial of w
abbrev pub NoSquareDivides : ℕ → Type 0
NoSquareDivides w = Divisibility.NoSquareDivides (polynomial_ring bit_field) (polynomial_of w)

-- the words of the moduli: in range, and squarefree
pub record ModulusWord (w : ℕ) : Type 0 where
  pub large : 2 ≤ w
  pub small : w < 2 ^ 32
  pub free : NoSquareDivides w
