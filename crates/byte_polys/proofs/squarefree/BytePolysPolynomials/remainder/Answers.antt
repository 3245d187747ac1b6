use Rattle.std.proofs.Common.{◌==◌, rules, sym, ap, ◌∙◌, eq-eqb}
use Rattle.std.proofs.lemmas.Bool.{and_from}
use Rattle.std.proofs.lemmas.Bool.Decides.{when_true}
use Rattle.polynomial_domains.specs.PerfectField.{IsRemainder}
use Rattle.byte_polys.specs.ByteField.{byte_polys, byte_scalars, poly, polynomial_of}
use Rattle.byte_polys.proofs.Owned.{division_same}
use Rattle.byte_polys.proofs.squarefree.BytePolysPolynomials.remainder.Goals as goal

pub returns : goal.returns
unfolding byte_polys
returns c =
    let d = c.args.self.now in
    let divided = when_true _ _ (and_from _ _ (eq-eqb _ _ c.own.ensures.p) (eq-eqb _ _ c.own-2.ensures.p)) c.quotient_and_remainder.ensures.parts in
    let shown = ap (λ o. polynomial_of d.p d.prime o c.quotient_and_remainder.result.1.coefficients) (eq-eqb _ _ c.quotient_and_remainder.ensures.p.1) in
    let remainder : IsRemainder (byte_scalars c.args.self.now.p c.args.self.now.prime) (polynomial_of c.args.self.now.p c.args.self.now.prime (c.args.a.p == c.args.self.now.p) c.args.a.coefficients) (polynomial_of c.args.self.now.p c.args.self.now.prime (c.args.b.p == c.args.self.now.p) c.args.b.coefficients) (polynomial_of c.args.self.now.p c.args.self.now.prime (c.quotient_and_remainder.result.1.p == c.args.self.now.p) c.quotient_and_remainder.result.1.coefficients) =
    record {
      by_nonzero = λ ne. (
        poly d.p d.prime c.quotient_and_remainder.result.0.coefficients,
        division_same c.own.ensures.value c.own-2.ensures.value (sym shown) (divided.by_nonzero (λ z. ne (sym c.own-2.ensures.value ∙ z))),
      );
      by_zero = λ z. shown ∙ ap (byte_polys d.p d.prime).element (divided.by_zero (c.own-2.ensures.value ∙ z)).1 ∙ c.own.ensures.value;
    } in
    search rules
