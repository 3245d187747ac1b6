use Rattle.std.proofs.Common.{◌≡◌, ◌*◌, ◌%◌, ◌<◌}
use Rattle.byte_polys.proofs.field.BytePolys.inverse.Given as goal

-- what is left is from 1 to p − 1, and `factor` times a modulo p
abbrev pub invariant-loop-left : goal.invariant-loop-left
invariant-loop-left l = (0 < l.left) × (l.left < l.p) × (l.factor < l.p) × ((l.factor * l.a) % l.p ≡ l.left)

abbrev pub decreases-loop-left : goal.decreases-loop-left
decreases-loop-left l = l.left
