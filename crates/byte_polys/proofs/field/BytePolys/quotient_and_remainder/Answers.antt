use Rattle.std.proofs.Common.{refl, sym, ◌∙◌, subst, arith}
use Rattle.domains.specs.Answers.{Divided}
use Rattle.domains.proofs.Calls.{at_true}
use Rattle.byte_polys.specs.ByteField.{byte_polys, number}
use Rattle.byte_polys.specs.Bytes.{bytes_zero}
use Rattle.byte_polys.specs.Instance.{modulo}
use Rattle.byte_polys.specs.SamePrime.{same_prime}
use Rattle.byte_polys.proofs.Owned.{owned}
use Rattle.byte_polys.proofs.field.BytePolys.quotient_and_remainder.Goals as goal

pub returns-in-Some-clause-parts : goal.returns-in-Some-clause-parts
returns-in-Some-clause-parts c =
    let d = c.args.self in
    let divisor = c.in-Some.divisor in
    let found = c.in-Some.ensures in
    let own = sym c.owns.ensures ∙ c.if-not-owns.false in
    let same = found.0 ∙ (owned own).1 in
    let result = c.divide.result in
    at_true _ _ own
    (subst (λ b. Divided (byte_polys d.p d.prime) (number c.args.a.coefficients) (number b) (number result.0.coefficients) (number result.1.coefficients)) found.1
    (same_prime (λ p h. Divided (byte_polys p h) (number c.args.a.coefficients) (number divisor.coefficients) (number result.0.coefficients) (number result.1.coefficients)) divisor.field.p d.p divisor.field.prime d.prime same c.divide.ensures.parts))

pub returns-in-None-clause-parts : goal.returns-in-None-clause-parts
unfolding byte_polys
returns-in-None-clause-parts c =
    let d = c.args.self in
    let own = sym c.owns.ensures ∙ c.if-not-owns.false in
    at_true _ _ own
    (record {
      by_nonzero = λ ne. absurd (ne (bytes_zero (modulo d.p d.prime) c.args.b.coefficients (λ i. c.in-None.ensures i (omega arith))));
      by_zero = λ z. (c.zero-in-None.ensures.word, refl);
    })
