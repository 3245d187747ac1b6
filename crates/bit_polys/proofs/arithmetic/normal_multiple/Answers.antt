use Rattle.std.proofs.Common.{sym, ap, ◌∙◌, pos_of_ne-zero}
use Rattle.domains.proofs.Calls.{own_multiple}
use Rattle.bit_polys.specs.BitPolys.{bit_polys, polynomial_of}
use Rattle.bit_polys.specs.Words.{zero_stands, zero_only, zero_word, one_stands, one_word}
use Rattle.bit_polys.specs.Degrees.{word_monic}
use Rattle.bit_polys.proofs.arithmetic.normal_multiple.Goals as goal

-- a value is monic unless it is 0
pub returns : goal.returns
returns c =
    let a = c.args.a.word in
    own_multiple bit_polys a 1 (sym one_word) one_stands (λ ne. word_monic a (pos_of_ne-zero (λ e. ne (ap polynomial_of e ∙ zero_stands)))) (λ z. zero_only a z ∙ sym zero_word)
