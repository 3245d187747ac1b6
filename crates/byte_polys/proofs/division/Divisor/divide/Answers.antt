use Rattle.std.proofs.Common.{sym, ap, rules}
use Rattle.domains.specs.Answers.{Divided}
use Rattle.byte_polys.specs.ByteField.{byte_polys, number}
use Rattle.byte_polys.specs.Degrees.{divisor_top, poly_not_zero, list_division}
use Rattle.byte_polys.specs.SamePrime.{below_same}
use Rattle.byte_polys.specs.Instance.{modulo}
use Rattle.byte_polys.proofs.division.Divisor.divide.Goals as goal

pub returns-clause-parts : goal.returns-clause-parts
unfolding byte_polys
returns-clause-parts c =
    let d = c.args.self in
    let L = modulo d.field.p d.field.prime in
    let top = divisor_top d.divides in
    let call = c.long_division in
    let divided : Divided (byte_polys c.args.self.field.p c.args.self.field.prime) (number c.row.result.coefficients) (number c.args.self.coefficients) (number c.long_division.result.0.coefficients) (number c.long_division.result.1.coefficients) =
    record {
      by_nonzero = λ ne. list_division L d.coefficients d.degree d.divides.below top c.row.result.coefficients call.result.0.coefficients call.result.1.coefficients (below_same call.result.1.coefficients (ap (λ f. f.p) call.ensures.field.1) call.result.1.below) call.ensures.small call.ensures.sum;
      by_zero = λ z. absurd (poly_not_zero L d.coefficients d.degree d.divides.below top z);
    } in
    rw (sym c.row.ensures.coefficients) (rw c.value.ensures.coefficients (rw c.value-2.ensures.coefficients (search rules)))
