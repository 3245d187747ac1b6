use Rattle.byte_polys.specs.Listed.{listed_low, listed_high}
use Rattle.byte_polys.proofs.value.BytePoly.divisor.Goals as goal

pub invariant_of-field : goal.invariant_of-field
invariant_of-field c = record { prime = c.args.self.prime; low = listed_low c.args.self.p c.args.self.prime; high = listed_high c.args.self.p c.args.self.prime }
