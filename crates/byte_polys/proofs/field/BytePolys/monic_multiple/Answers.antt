use Rattle.std.proofs.Common.{◌≡◌, length, sym, subst, eq-eqb, arith}
use Rattle.domains.proofs.Calls.{at_true}
use Rattle.byte_polys.specs.ByteField.{byte_polys}
use Rattle.byte_polys.proofs.Zeros.{past_end, zeros}
use Rattle.byte_polys.specs.Steps.{Normalizer, Added}
use Rattle.byte_polys.specs.SamePrime.{below_same}
use Rattle.byte_polys.specs.Instance.{modulo}
use Rattle.byte_polys.proofs.Units.{normalized}
use Rattle.byte_polys.proofs.field.BytePolys.monic_multiple.Goals as goal

pub returns-clause-parts : goal.returns-clause-parts
unfolding byte_polys
returns-clause-parts c =
    let L = modulo c.args.self.p c.args.self.prime in
    let cs = c.args.a.coefficients in
    let eight : length c.args.a.coefficients ≡ 8 = omega arith in
    let same = c.if-a-self.false in
    let below = below_same cs same c.args.a.below in
    let end = past_end cs 8 eight in
    let N = subst (λ p. Normalizer p cs c.normalizer-unit.result) same c.normalizer-unit.ensures in
    at_true _ _ (eq-eqb _ _ same) (normalized L cs c.value-multiple.result.coefficients _ c.normalizer-unit.result below end N (zeros 7) _ (zeros 8) (subst (Added c.args.self.p c.normalizer-unit.result 0 8 _ cs) (sym c.value-multiple.ensures.coefficients) c.plus_multiple.ensures.sum) 7)
