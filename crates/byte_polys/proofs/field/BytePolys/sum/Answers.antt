use Rattle.std.proofs.Common.{arith}
use Rattle.byte_polys.specs.ByteField.{byte_polys}
use Rattle.byte_polys.specs.Instance.{modulo}
use Rattle.byte_polys.proofs.Owned.{eight_bytes}
use Rattle.byte_polys.proofs.Sums.{sum_poly}
use Rattle.byte_polys.proofs.field.BytePolys.sum.Goals as goal

pub returns-clause-value : goal.returns-clause-value
unfolding byte_polys
returns-clause-value c =
    let a = eight_bytes c.args.a.p c.args.a.prime c.args.a.coefficients c.args.a.below (omega arith) in
    let b = eight_bytes c.args.b.p c.args.b.prime c.args.b.coefficients c.args.b.below (omega arith) in
    sum_poly (modulo c.args.self.p c.args.self.prime) c.plus_multiple.ensures.sum a.0 a.1 b.0 b.1
