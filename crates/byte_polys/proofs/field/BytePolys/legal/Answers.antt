use Rattle.std.proofs.Common.{◌≡◌, true, false, subst}
use Rattle.domains.specs.Meaning.{legal_word}
use Rattle.domains.proofs.Calls.{at_none}
use Rattle.byte_polys.specs.ByteField.{byte_polys}
use Rattle.byte_polys.specs.SamePrime.{below_same}
use Rattle.byte_polys.specs.WordsOfModuli.{monic_word, other_word}
use Rattle.byte_polys.proofs.field.BytePolys.legal.Goals as goal

pub returns-in_err-monic_degree : goal.returns-in_err-monic_degree
returns-in_err-monic_degree c =
    let M = byte_polys c.args.self.p c.args.self.prime in
    let a = c.in_ok-a.a in
    let found = c.in_ok-a.ensures in
    at_none _ _ c.from_residual-in_err-monic_degree.ensures
    (subst (λ w. legal_word M w ≡ false) found.1 (other_word c.args.self.p c.args.self.prime a.coefficients (below_same a.coefficients found.0 a.below) c.in_err-monic_degree.ensures))

pub returns : goal.returns
returns c =
    let M = byte_polys c.args.self.p c.args.self.prime in
    let a = c.in_ok-a.a in
    let found = c.in_ok-a.ensures in
    let monic = c.in_ok-monic_degree.ensures in (
      found.0,
      found.1,
      monic,
      subst (λ w. legal_word M w ≡ true) found.1 (monic_word c.args.self.p c.args.self.prime a.coefficients (below_same a.coefficients found.0 a.below) c.in_ok-monic_degree.field-0 monic),
    )
