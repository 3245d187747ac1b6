-- A chain of divisions of polynomials, stage by stage. Assumes nothing.
use Rattle.std.proofs.Common.{◌≡◌, ◌≢◌, Bool}
use Rattle.algebra.specs.Divisibility.{Coprime, IsUnit}
use Rattle.algebra.proofs.CommonDivisors.{SameDivisors, same_step, same_end}
use Rattle.domains.specs.Answers.{Decides}
use Rattle.domains.proofs.Decisions.{decides_like}
use Rattle.polynomials.specs.Polynomial.{Polynomial, zero_polynomial}
use Rattle.polynomials.proofs.Ring.{polynomial_ring}
use Rattle.polynomials.proofs.Euclidean.{polynomial_laws}
use Rattle.polynomial_domains.specs.PerfectField.{PerfectField, IsRemainder}

-- one division more keeps the common divisors
pub next_stage : (F : PerfectField) (a b x y r : Polynomial F.field) → SameDivisors (polynomial_ring F.field) a b x y → y ≢ zero_polynomial F.field → IsRemainder F x y r → SameDivisors (polynomial_ring F.field) a b y r
next_stage F a b x y r s ne v = let (q, division) = v.by_nonzero ne in same_step (polynomial_laws F.field) a b x y q r s division

-- with 0 left, what decides whether the last divisor is a unit decides whether the two are coprime
pub last_stage : (F : PerfectField) (t : Bool) (a b x y : Polynomial F.field) → SameDivisors (polynomial_ring F.field) a b x y → y ≡ zero_polynomial F.field → Decides t (IsUnit (polynomial_ring F.field) x) → Decides t (Coprime (polynomial_ring F.field) a b)
last_stage F t a b x y s z =
    let end = same_end (polynomial_ring F.field) a b x y s z in
    decides_like t (IsUnit (polynomial_ring F.field) x) (Coprime (polynomial_ring F.field) a b) end.0 end.1
