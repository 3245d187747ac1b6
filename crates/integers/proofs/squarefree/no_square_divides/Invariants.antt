use Rattle.std.proofs.Common.{◌≤◌}
use Rattle.integers.proofs.DividingOut.{Stage}
use Rattle.integers.proofs.squarefree.no_square_divides.Given as goal

-- the rest is a stage of dividing out
abbrev pub invariant-loop-d : goal.invariant-loop-d
invariant-loop-d l = (l.rest ≤ l.n) × Stage l.n l.rest l.d
