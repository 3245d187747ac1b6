use Rattle.std.proofs.Common.{◌≡◌, ◌^◌, ◌<◌, length, sym, ap, ◌∙◌, subst, arith}
use Rattle.polynomials.specs.Words.{from_word}
use Rattle.byte_polys.specs.ByteField.{byte_polys, field, byte_digits, number}
use Rattle.byte_polys.specs.Steps.{Below}
use Rattle.byte_polys.specs.Bytes.{number_is}
use Rattle.byte_polys.specs.SamePrime.{below_same}
use Rattle.byte_polys.proofs.Zeros.{past_end, zeros}
use Rattle.byte_polys.specs.Instance.{modulo}
use Rattle.byte_polys.proofs.Numbers.{bytes_of, bytes_below, number_bytes}
use Rattle.byte_polys.proofs.Sums.{reduced_poly}
use Rattle.byte_polys.proofs.field.BytePolys.value.Goals as goal

pub returns : goal.returns
unfolding byte_polys bytes_of
returns c =
    let p = c.args.self.p in
    let h = c.args.self.prime in
    let L = modulo p h in
    let bytes = c.to_le_bytes.result in
    let is : c.to_le_bytes.result ≡ bytes_of c.args.w = c.to_le_bytes.ensures in
    let eight : length c.to_le_bytes.result ≡ 8 = omega arith in
    let fits : c.args.w < 2 ^ 64 = omega arith in
    let value =
    reduced_poly L c.plus_multiple.ensures.sum (zeros 8) (subst (Below 256) (sym is) (bytes_below c.args.w)) (past_end bytes 8 eight)
    ∙ ap (from_word (field p h) (byte_digits p h)) (ap number is ∙ number_bytes c.args.w fits) in
    let same = c.value.ensures.coefficients in
    let own = ap (λ d. d.p) c.plus_multiple.ensures.field in
    record {
      p = c.value.ensures.p ∙ own;
      value = ap (λ cs. from_word (field p h) (byte_digits p h) (number cs)) same ∙ value;
      word = ap number same ∙ number_is L c.plus_multiple.result.coefficients _ (below_same c.plus_multiple.result.coefficients own c.plus_multiple.result.below) value;
    }
