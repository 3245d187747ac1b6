use Rattle.std.proofs.Common.{◌≡◌, ◌+◌, ◌-◌, length, drop, length-take-le, length-drop, length-set, sym, ◌∙◌, arith}
use Rattle.std.proofs.lemmas.List.{length-replicate}
use Rattle.byte_polys.specs.ByteField.{byte_polys}
use Rattle.byte_polys.specs.Instance.{modulo}
use Rattle.byte_polys.specs.SamePrime.{below_same}
use Rattle.byte_polys.proofs.Zeros.{past_end, zeros}
use Rattle.byte_polys.proofs.Dividing.{stage_start, stage_next, stage_skip}
use Rattle.byte_polys.proofs.Writing.{added_within}
use Rattle.byte_polys.proofs.division.Divisor.long_division.Goals as goal

pub loop-top-init : goal.loop-top-init
unfolding byte_polys
loop-top-init g c =
    let d = c.args.self in
    let long : length c.args.a.coefficients ≡ g.row.N = omega arith in
    let s = stage_start (modulo d.field.p d.field.prime) d.coefficients d.degree g.row.N c.args.a.coefficients _ (below_same c.args.a.coefficients c.requires.field c.args.a.below) (λ i l. (zeros g.row.N).each i) (past_end c.args.a.coefficients _ long) in
    record { long = length-replicate g.row.N 0 ∙ sym long; stage = s; sum = s.sum }

-- a turn that takes a coefficient away
pub loop-top-preserved-then-rest-top-ne0 : goal.loop-top-preserved-then-rest-top-ne0
unfolding byte_polys
loop-top-preserved-then-rest-top-ne0 g c =
    let d = c.args.self in
    let wide = c.loop-top.invariant.long in
    let short = d.divides.short in
    let eight : length d.coefficients ≡ 8 = omega arith in
    let all : length c.loop-top.rest ≡ g.row.N = omega arith in
    let top = c.loop-top.top - 1 in
    let k = top - d.degree in
    let m = top + 1 - k in
    let same : m ≡ d.degree + 1 = omega arith in
    let long : length c.add_multiple.new.a ≡ d.degree + 1 = omega (arith, length-take-le m (drop k c.loop-top.rest) (omega (arith, length-drop k c.loop-top.rest))) in
    let added = added_within k m (d.degree + 1) c.loop-top.rest d.coefficients c.add_multiple.new.a (omega arith) (omega arith) same long c.add_multiple.ensures in
    let s = stage_next (modulo d.field.p d.field.prime) d.divides c.loop-top.top c.fused-c.result (omega arith) (omega arith) c.fused-c.ensures c.loop-top.invariant.stage added in
    record { long = length-set _ _ _ ∙ wide; stage = s; sum = s.sum }

-- and one that finds 0
pub loop-top-preserved : goal.loop-top-preserved
unfolding byte_polys
loop-top-preserved g c =
    let s = stage_skip (modulo c.args.self.field.p c.args.self.field.prime) c.loop-top.top (omega arith) c.loop-top.invariant.stage in
    record { long = c.loop-top.invariant.long; stage = s; sum = s.sum }
