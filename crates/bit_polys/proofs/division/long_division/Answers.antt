use Rattle.std.proofs.Common.{◌≤◌, arith}
use Rattle.bit_polys.specs.HighestBits.{Top, top_above, shifted_nonzero}
use Rattle.bit_polys.proofs.LongDivision.{start, rest_falls, next, done}
use Rattle.bit_polys.proofs.division.long_division.Goals as goal

-- in a turn, the highest bits of the divisor and of the rest
divisor : (c : goal.After-ilog2) → Top c.args.b c.ilog2-degree.result
divisor c = record { low = c.ilog2-degree.ensures.power_le; high = c.ilog2-degree.ensures.next_power_gt }

left : (c : goal.After-ilog2) → Top c.loop-rest.rest c.ilog2.result
left c = record { low = c.ilog2.ensures.power_le; high = c.ilog2.ensures.next_power_gt }

-- the divisor is no longer than the rest
long : (c : goal.After-ilog2) → c.ilog2-degree.result ≤ c.ilog2.result
long c = top_above _ _ _ (left c) (shifted_nonzero _ _ (omega arith))

pub loop-rest-init : goal.loop-rest-init
loop-rest-init c =
    let s = start c.args.a c.args.b in
    (s, done _ _ _ _ _ s (record { low = c.ilog2-degree.ensures.power_le; high = c.ilog2-degree.ensures.next_power_gt }))

pub overflow_sub-shift : goal.overflow_sub-shift
overflow_sub-shift c = long c

pub loop-rest-smaller : goal.loop-rest-smaller
loop-rest-smaller c =
    let h = rest_falls _ _ _ _ (divisor c) (left c) (long c) c.ilog2.ensures.bound in
    omega (arith, c.ilog2.ensures.power_le)

pub loop-rest-preserved : goal.loop-rest-preserved
loop-rest-preserved c =
    let s = next _ _ _ _ (divisor c) (left c) (long c) c.ilog2.ensures.bound _ _ c.loop-rest.invariant.0 in
    (s, done _ _ _ _ _ s (divisor c))
