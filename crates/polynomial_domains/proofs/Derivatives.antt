-- What the derivative of a polynomial over a perfect field tells. Assumes nothing.
use Rattle.std.proofs.Common.{◌≡◌, Bool, sym, subst}
use Rattle.algebra.specs.Divisibility.{Coprime, Squarefree}
use Rattle.domains.specs.Answers.{Decides}
use Rattle.domains.proofs.Decisions.{decides_like}
use Rattle.polynomials.specs.Polynomial.{Polynomial, derivative}
use Rattle.polynomials.proofs.Ring.{polynomial_ring}
use Rattle.polynomials.proofs.Squarefree.{squarefree_iff_coprime_derivative}
use Rattle.polynomial_domains.specs.PerfectField.{PerfectField}

-- a polynomial is squarefree exactly when it is coprime to its derivative, so what decides the one decides the other
pub decides_squarefree : (F : PerfectField) (r : Bool) (f d : Polynomial F.field) → d ≡ derivative F.field f → Decides r (Coprime (polynomial_ring F.field) f d) → Decides r (Squarefree (polynomial_ring F.field) f)
decides_squarefree F r f d e =
    let test = squarefree_iff_coprime_derivative F.field F.perfect f in
    decides_like r (Coprime (polynomial_ring F.field) f d) (Squarefree (polynomial_ring F.field) f)
    (λ c. test.1 (subst (Coprime (polynomial_ring F.field) f) e c))
    (λ s. subst (Coprime (polynomial_ring F.field) f) (sym e) (test.0 s))
