use Rattle.std.proofs.Common.{◌≡◌, length, sym, ◌∙◌, arith}
use Rattle.byte_polys.proofs.Numbers.{number_eight}
use Rattle.byte_polys.proofs.value.BytePoly.word.Goals as goal

pub returns : goal.returns
returns c =
    let eight : length c.args.self.coefficients ≡ 8 = omega arith in
    c.from_le_bytes.ensures ∙ sym (number_eight c.args.self.coefficients eight)
