use Rattle.std.proofs.Common.{arith}
use Rattle.bit_polys.specs.HighestBits.{Top}
use Rattle.bit_polys.proofs.Products.{start, rest_falls, next, done}
use Rattle.bit_polys.proofs.product.product.Goals as goal

-- in a turn, the highest bit of the rest
left : (c : goal.After-ilog2-shift) → Top c.loop-rest.rest c.ilog2-shift.result
left c = record { low = c.ilog2-shift.ensures.power_le; high = c.ilog2-shift.ensures.next_power_gt }

pub loop-rest-init : goal.loop-rest-init
loop-rest-init c = let s = start c.args.a c.args.b in (s, done c.args.a c.args.b _ _ s)

pub loop-rest-smaller : goal.loop-rest-smaller
loop-rest-smaller c =
    let h = rest_falls c.args.a _ _ (omega arith) (left c) c.ilog2-shift.ensures.bound in
    omega (arith, c.ilog2-shift.ensures.power_le)

pub loop-rest-preserved : goal.loop-rest-preserved
loop-rest-preserved c =
    let s = next c.args.a _ _ (omega arith) (left c) c.ilog2-shift.ensures.bound c.args.b c.loop-rest.sum c.loop-rest.invariant.0 in
    (s, done c.args.a c.args.b _ _ s)
