use Rattle.std.proofs.Common.{◌≡◌, ◌/◌, ◌^◌}
use Rattle.bit_polys.specs.Division.{LongDivision}
use Rattle.bit_polys.proofs.LongDivision.{Stage}
use Rattle.bit_polys.proofs.division.long_division.Given as goal

-- a stage of the division, and that it is done when the rest has a lower degree than the divisor
abbrev pub invariant-loop-rest : goal.invariant-loop-rest
invariant-loop-rest l = Stage l.a l.b l.quotient l.rest × (l.rest / 2 ^ l.degree ≡ 0 → LongDivision l.a l.b l.quotient l.rest)

abbrev pub decreases-loop-rest : goal.decreases-loop-rest
decreases-loop-rest l = l.rest
