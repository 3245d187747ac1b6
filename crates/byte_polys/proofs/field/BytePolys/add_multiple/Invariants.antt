use Rattle.byte_polys.specs.Steps.{Added}
use Rattle.byte_polys.proofs.field.BytePolys.add_multiple.Given as goal

-- the first i coefficients of b have been added
abbrev pub invariant-loop-i : goal.invariant-loop-i
invariant-loop-i l = Added l.self.p l.c 0 l.i l.initial.a l.b l.a
