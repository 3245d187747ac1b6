use Rattle.std.proofs.Common.{sym, ◌∙◌}
use Rattle.domains.specs.Answers.{IsZero}
use Rattle.domains.proofs.Decisions.{decides_like}
use Rattle.byte_polys.specs.ByteField.{byte_polys, number}
use Rattle.byte_polys.proofs.squarefree.BytePolysPolynomials.is_zero.Goals as goal

pub returns : goal.returns
unfolding byte_polys
returns c =
    let d = c.args.self.now in
    let a = c.own.result in
    decides_like c.vanishes.result (IsZero (byte_polys d.p d.prime) (number a.coefficients)) _ (λ z. sym c.own.ensures.value ∙ z) (λ z. c.own.ensures.value ∙ z) (c.vanishes.ensures c.own.ensures.p)
