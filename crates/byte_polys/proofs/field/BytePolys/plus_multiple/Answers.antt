use Rattle.std.proofs.Common.{◌≡◌, ℕ, ◌+◌, ◌*◌, ◌%◌, ◌<◌, slice_index, length, rules, arith}
use Rattle.byte_polys.specs.Instance.{modulo}
use Rattle.byte_polys.proofs.Adding.{added_each, sums_below}
use Rattle.byte_polys.proofs.Zeros.{past_end}
use Rattle.byte_polys.proofs.field.BytePolys.plus_multiple.Goals as goal

pub invariant_of-result : goal.invariant_of-result
invariant_of-result c =
    let each : (j : ℕ) → j < 8 → slice_index c.from_fn.result j ≡ (slice_index c.args.a j + c.args.c * slice_index c.args.b j) % c.args.self.p = search rules in
    let eight : length c.from_fn.result ≡ 8 = omega arith in
    let first : length c.args.a ≡ 8 = omega arith in
    let start = past_end c.args.a 8 first in
    record { below = sums_below (modulo c.args.self.p c.args.self.prime).positive (added_each c.args.a c.args.b c.from_fn.result each start (past_end c.from_fn.result 8 eight)) start }

pub returns-clause-sum : goal.returns-clause-sum
returns-clause-sum c =
    let each : (j : ℕ) → j < 8 → slice_index c.from_fn.result j ≡ (slice_index c.args.a j + c.args.c * slice_index c.args.b j) % c.args.self.p = search rules in
    let eight : length c.from_fn.result ≡ 8 = omega arith in
    let first : length c.args.a ≡ 8 = omega arith in
    added_each c.args.a c.args.b c.from_fn.result each (past_end c.args.a 8 first) (past_end c.from_fn.result 8 eight)
