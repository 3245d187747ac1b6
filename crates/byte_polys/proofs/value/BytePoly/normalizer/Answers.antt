use Rattle.std.proofs.Common.{refl, arith}
use Rattle.byte_polys.specs.Listed.{listed_low}
use Rattle.byte_polys.proofs.value.BytePoly.normalizer.Goals as goal

pub returns-in-None : goal.returns-in-None
returns-in-None c =
    let low = listed_low c.args.self.p c.args.self.prime in
    record { below = omega arith; product = λ n t. absurd (t.some (c.in-None.ensures n (omega arith))); of_zero = λ z. refl }
