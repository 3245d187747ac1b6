use Rattle.std.proofs.Common.{◌≡◌, cond, sym, ap, ◌∙◌, subst, eq-eqb, arith}
use Rattle.domains.specs.Answers.{zero_word}
use Rattle.domains.specs.Meaning.{residue}
use Rattle.byte_polys.specs.ByteField.{byte_polys, number, poly}
use Rattle.byte_polys.specs.Instance.{modulo}
use Rattle.byte_polys.specs.SamePrime.{below_same, same_prime}
use Rattle.byte_polys.proofs.Remainders.{first_below, residue_number}
use Rattle.byte_polys.proofs.row.Row.residue.Goals as goal

pub invariant_of-result : goal.invariant_of-result
invariant_of-result g c =
    let d = c.divisor.result in
    let rest = c.long_division-rest.result.1 in
    let same = ap (λ f. f.p) c.long_division-rest.ensures.field.1 ∙ c.divisor.ensures.field ∙ c.if-m-field.false in
    let short = d.divides.short in
    record {
      below = first_below c.args.self.field.p c.copy_from_slice.new.self rest.coefficients c.copy_from_slice.ensures.after (λ i l. c.long_division-rest.ensures.small i (omega arith)) (below_same rest.coefficients same rest.below);
      prime = c.args.self.field.prime;
    }

pub returns-clause-value : goal.returns-clause-value
unfolding byte_polys
returns-clause-value g c =
    let d = c.divisor.result in
    let field = c.args.self.field in
    let call = c.long_division-rest in
    let rest = call.result.1 in
    let same = c.divisor.ensures.field ∙ c.if-m-field.false in
    let low = c.copy_from_slice.new.self in
    let start = c.args.self.coefficients in
    let M = byte_polys field.p field.prime in
    let found = residue_number (modulo d.field.p d.field.prime) d.divides start call.result.0.coefficients rest.coefficients low c.copy_from_slice.ensures.after (below_same rest.coefficients (ap (λ f. f.p) call.ensures.field.1) rest.below) call.ensures.small call.ensures.sum in
    let here = same_prime (λ p h. number low ≡ residue (byte_polys p h) (poly p h d.coefficients) (poly p h start)) d.field.p field.p d.field.prime field.prime same found in
    subst (λ m. number low ≡ residue M (poly field.p field.prime m) (poly field.p field.prime start)) c.divisor.ensures.coefficients here
    ∙ ap (λ o. cond o (residue M (M.element (number c.args.m.coefficients)) (poly field.p field.prime start)) (zero_word M)) (sym (eq-eqb _ _ c.if-m-field.false))
