-- Squarefree moduli and division over GF(p), for lists of coefficients. Assumes nothing.
use Rattle.std.specs.Prelude.{◌≡◌, ℕ, true, List}
use Rattle.algebra.specs.Divisibility as Divisibility
use Rattle.byte_polys.specs.Listed.{listed}
use Rattle.byte_polys.specs.ByteField.{byte_polys, poly}

-- no square of a non-unit divides the polynomial of a list of coefficients
abbrev pub NoSquareDivides : (p : ℕ) → listed p ≡ true → List ℕ → Type 0
NoSquareDivides p h cs = Divisibility.NoSquareDivides (byte_polys p h).euclidean.ring (poly p h cs)

-- the polynomial of a is that of q times that of b and that of r
abbrev pub Leaves : (p : ℕ) → listed p ≡ true → List ℕ → List ℕ → List ℕ → List ℕ → Type 0
Leaves p h a b q r =
    poly p h a ≡ (byte_polys p h).euclidean.ring.add ((byte_polys p h).euclidean.ring.mul (poly p h q) (poly p h b)) (poly p h r)
