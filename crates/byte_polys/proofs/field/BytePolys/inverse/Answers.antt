use Rattle.std.proofs.Common.{◌%◌, ap, ◌∙◌, arith}
use native.Mathlib.Nat as Nat
use Rattle.byte_polys.specs.Listed.{listed_prime}
use Rattle.byte_polys.specs.Instance.{modulo}
use Rattle.byte_polys.proofs.Inverses.{prime_rest, next_factor}
use Rattle.byte_polys.proofs.field.BytePolys.inverse.Goals as goal

pub loop-left-init : goal.loop-left-init
loop-left-init c =
    (c.requires.some, c.requires.below, omega arith, ap (λ x. x % c.args.self.p) (Nat.one-mul c.args.a) ∙ Nat.mod-eq_of_lt c.requires.below)

pub loop-left-preserved : goal.loop-left-preserved
loop-left-preserved c =
    let inv = c.loop-left.invariant in
    let self = c.args.self in
    let less = Nat.mod-lt self.p inv.0 in (
      prime_rest self.p c.loop-left.left (listed_prime self.p self.prime) c.loop-left-test.true inv.1,
      omega arith,
      Nat.mod-lt _ (omega arith),
      next_factor (modulo self.p self.prime) c.args.a c.loop-left.left c.loop-left.factor inv.0 inv.1 inv.3,
    )
