use Rattle.std.proofs.Common.{◌≡◌, length, refl, ap, ◌∙◌, eq-eqb, arith}
use Rattle.polynomials.specs.Polynomial.{derivative as derivative_polynomial}
use Rattle.byte_polys.specs.ByteField.{field, polynomial_of}
use Rattle.byte_polys.specs.Instance.{modulo}
use Rattle.byte_polys.specs.SamePrime.{below_same}
use Rattle.byte_polys.proofs.Derivatives.{derivative_poly}
use Rattle.byte_polys.proofs.Zeros.{past_end}
use Rattle.byte_polys.proofs.squarefree.BytePolysPolynomials.derivative.Goals as goal

pub returns : goal.returns
returns c =
    let d = c.args.self.now in
    let cs = c.own-a.result.coefficients in
    let r = c.derivative_of-coefficients.result in
    let found = c.derivative_of-coefficients.ensures in
    let all : length c.own-a.result.coefficients ≡ 8 = omega arith in
    let eight : length c.derivative_of-coefficients.result ≡ 8 = omega arith in
    ap (λ o. polynomial_of d.p d.prime o r) (eq-eqb d.p d.p refl)
    ∙ derivative_poly (modulo d.p d.prime) cs r found.each found.last (past_end r 8 eight) (below_same cs c.own-a.ensures.p c.own-a.result.below) (past_end cs 8 all)
    ∙ ap (derivative_polynomial (field d.p d.prime)) c.own-a.ensures.value
