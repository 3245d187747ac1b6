use Rattle.std.proofs.Common.{◌==◌, sym, ◌∙◌, rules}
use Rattle.domains.specs.Answers.{Decides, IsZero}
use Rattle.domains.proofs.Decisions.{decides_equal}
use Rattle.byte_polys.specs.ByteField.{byte_polys, number}
use Rattle.byte_polys.specs.Instance.{modulo}
use Rattle.byte_polys.specs.LegalWords.{number_zero, zero_number}
use Rattle.byte_polys.specs.SamePrime.{below_same}
use Rattle.byte_polys.proofs.field.BytePolys.vanishes.Goals as goal

pub returns : goal.returns
unfolding byte_polys
returns c = λ same.
    let L = modulo c.args.self.p c.args.self.prime in
    let cs = c.args.a.coefficients in
    let decided : Decides (c.word.result == 0) (IsZero (byte_polys c.args.self.p c.args.self.prime) (number c.args.a.coefficients)) =
    decides_equal c.word.result 0 _ (λ e. number_zero L cs (sym c.word.ensures ∙ e)) (λ z. c.word.ensures ∙ zero_number L cs (below_same cs same c.args.a.below) z) in
    search rules
