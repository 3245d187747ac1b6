use Rattle.std.proofs.Common.{◌≡◌, length}
use Rattle.byte_polys.specs.Domain.{Leaves}
use Rattle.byte_polys.proofs.Dividing.{Stage}
use Rattle.byte_polys.specs.Instance.{modulo}
use Rattle.byte_polys.proofs.division.Divisor.long_division.Given as goal

-- a stage of the division, and its sum as the domain means it
abbrev pub invariant-loop-top : goal.invariant-loop-top
invariant-loop-top g l =
    let p = l.field.p in
    let h = l.field.prime in
    record {
      long : length l.quotient ≡ length l.fn.a.coefficients;
      stage : Stage (modulo p h) l.coefficients l.degree l.top l.fn.a.coefficients l.quotient l.rest;
      sum : Leaves p h l.fn.a.coefficients l.coefficients l.quotient l.rest;
    }
