use Rattle.std.proofs.Common.{◌≡◌, ℕ, ◌+◌, ◌%◌, ◌<◌, slice_index, length, rules, arith}
use Rattle.byte_polys.specs.ByteField.{byte_polys}
use Rattle.byte_polys.specs.Bytes.{below_byte}
use Rattle.byte_polys.specs.Instance.{modulo}
use Rattle.byte_polys.specs.Steps.{products}
use Rattle.byte_polys.proofs.Sums.{product_below, product_poly}
use Rattle.byte_polys.proofs.Zeros.{past_end}
use Rattle.byte_polys.proofs.field.BytePolys.product.Goals as goal

pub invariant_of-result : goal.invariant_of-result
invariant_of-result c =
    let a = c.args.a in
    let b = c.args.b in
    let r = c.from_fn.result in
    let each : (k : ℕ) → k < 15 → slice_index c.from_fn.result k ≡ products c.args.a.coefficients c.args.b.coefficients k (k + 1) % c.args.self.p = search rules in
    let fifteen : length c.from_fn.result ≡ 15 = omega arith in
    record { below = product_below (modulo c.args.self.p c.args.self.prime) a.coefficients b.coefficients r (past_end r 15 fifteen) each }

pub returns-clause-value : goal.returns-clause-value
unfolding byte_polys
returns-clause-value c =
    let a = c.args.a in
    let b = c.args.b in
    let r = c.from_fn.result in
    let each : (k : ℕ) → k < 15 → slice_index c.from_fn.result k ≡ products c.args.a.coefficients c.args.b.coefficients k (k + 1) % c.args.self.p = search rules in
    let first : length c.args.a.coefficients ≡ 8 = omega arith in
    let second : length c.args.b.coefficients ≡ 8 = omega arith in
    let fifteen : length c.from_fn.result ≡ 15 = omega arith in
    product_poly (modulo c.args.self.p c.args.self.prime) a.coefficients b.coefficients r (past_end r 15 fifteen) each (below_byte (modulo a.p a.prime) a.coefficients a.below) (below_byte (modulo b.p b.prime) b.coefficients b.below) (past_end a.coefficients 8 first) (past_end b.coefficients 8 second)
