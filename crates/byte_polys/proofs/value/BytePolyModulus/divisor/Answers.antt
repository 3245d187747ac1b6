use Rattle.std.proofs.Common.{refl, arith}
use Rattle.byte_polys.specs.Listed.{listed_low, listed_high}
use Rattle.byte_polys.proofs.Remainders.{modulus_divisor}
use Rattle.byte_polys.proofs.value.BytePolyModulus.divisor.Goals as goal

pub invariant_of-result : goal.invariant_of-result
invariant_of-result c = record { prime = c.args.self.prime; low = listed_low c.args.self.p c.args.self.prime; high = listed_high c.args.self.p c.args.self.prime }

pub invariant_of-result-2 : goal.invariant_of-result-2
invariant_of-result-2 c =
    let m = c.args.self in
    let low = listed_low m.p m.prime in
    record { divides = modulus_divisor m.p m.p m.coefficients m.degree refl m.below m.high m.one m.above; small = omega arith }
