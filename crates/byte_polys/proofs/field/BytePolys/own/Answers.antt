use Rattle.std.proofs.Common.{sym, ap, ◌∙◌, eq-eqb}
use Rattle.std.proofs.lemmas.Bool.{ne_eqb}
use Rattle.byte_polys.specs.ByteField.{byte_polys, field, byte_digits, polynomial_of}
use Rattle.byte_polys.specs.Laws.{lawful}
use Rattle.polynomials.specs.Words.{from_word}
use Rattle.byte_polys.proofs.field.BytePolys.own.Goals as goal

pub returns-then-a-self-clause-value : goal.returns-then-a-self-clause-value
returns-then-a-self-clause-value c =
    let d = c.args.self in
    sym (ap (λ o. polynomial_of d.p d.prime o c.args.a.coefficients) (eq-eqb _ _ c.if-a-self.true))

pub returns-else-a-self-clause-value : goal.returns-else-a-self-clause-value
unfolding byte_polys
returns-else-a-self-clause-value c =
    let d = c.args.self in
    ap (from_word (field d.p d.prime) (byte_digits d.p d.prime)) c.zero.ensures.word
    ∙ (lawful d.p d.prime).word_zero
    ∙ sym (ap (λ o. polynomial_of d.p d.prime o c.args.a.coefficients) (ne_eqb _ _ c.if-a-self.false))
