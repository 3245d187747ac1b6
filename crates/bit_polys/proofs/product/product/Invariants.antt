use Rattle.std.proofs.Common.{◌≡◌}
use Rattle.domains.specs.Answers.{times}
use Rattle.bit_polys.specs.BitPolys.{bit_polys, polynomial_of}
use Rattle.bit_polys.proofs.Products.{Stage}
use Rattle.bit_polys.proofs.product.product.Given as goal

-- a stage of the multiplication, and that it is done when nothing is left of b
abbrev pub invariant-loop-rest : goal.invariant-loop-rest
invariant-loop-rest l = Stage l.a l.b l.sum l.rest × (l.rest ≡ 0 → polynomial_of l.sum ≡ times bit_polys l.a l.b)

abbrev pub decreases-loop-rest : goal.decreases-loop-rest
decreases-loop-rest l = l.rest
