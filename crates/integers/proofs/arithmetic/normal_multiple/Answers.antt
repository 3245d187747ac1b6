use Rattle.std.proofs.Common.{pos, nat_abs, refl, ap}
use Rattle.domains.proofs.Calls.{own_multiple}
use Rattle.integers.specs.Integers.{integers}
use Rattle.integers.specs.Sizes.{abs_nonzero, abs_positive}
use Rattle.integers.proofs.arithmetic.normal_multiple.Goals as goal

-- a value is positive unless it is 0
pub returns : goal.returns
returns c =
    let a = c.args.a.word in
    own_multiple integers a 1 refl refl (λ ne. abs_positive a (abs_nonzero (pos a) ne)) (λ z. ap nat_abs z)
