use Rattle.std.proofs.Common.{rules}
use Rattle.polynomial_domains.proofs.Derivatives.{decides_squarefree}
use Rattle.polynomial_domains.proofs.squarefree.is_squarefree.Goals as goal

-- a polynomial is squarefree exactly when it is coprime to its derivative
pub returns : goal.returns
returns g c =
    let test = decides_squarefree (g.P.Polynomials.scalars c.args.ring.now) in
    search (rules, test)
