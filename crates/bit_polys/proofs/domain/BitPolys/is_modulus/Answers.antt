use Rattle.std.proofs.Common.{sym, subst, rules}
use Rattle.algebra.specs.Divisibility.{Squarefree}
use Rattle.domains.specs.Answers.{Decides}
use Rattle.domains.proofs.Decisions.{decides_like}
use Rattle.polynomials.proofs.Ring.{polynomial_ring}
use Rattle.bit_polys.specs.BitPolys.{bit_field, polynomial_of}
use Rattle.bit_polys.specs.Moduli.{ModulusWord, NoSquareDivides}
use Rattle.bit_polys.specs.ModuliLemmas.{test_range, squarefree, no_square, decides_modulus, outside, decides_meant}
use Rattle.bit_polys.proofs.domain.BitPolys.is_modulus.Goals as goal

-- a word in range is a modulus exactly when it is squarefree
pub returns-then-is_in_range : goal.returns-then-is_in_range
returns-then-is_in_range c =
    let w = c.args.w in
    let r = c.is_squarefree.result in
    let plain = decides_modulus r w (test_range w (sym c.if-is_in_range.ensures)) (decides_like r (Squarefree (polynomial_ring bit_field) (polynomial_of w)) (NoSquareDivides w) (no_square w) (squarefree w) (search rules)) in
    record { meant = decides_meant r w plain; plain = plain }

-- and no other word is one
pub returns-else-is_in_range : goal.returns-else-is_in_range
returns-else-is_in_range c =
    let w = c.args.w in
    let plain = subst (λ b. Decides b (ModulusWord w)) (sym c.if-is_in_range.false) (outside w (sym c.if-is_in_range.ensures)) in
    record { meant = decides_meant c.is_in_range.result w plain; plain = plain }
