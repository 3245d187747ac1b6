use Rattle.std.proofs.Common.{sym, arith, rules}
use Rattle.domains.specs.Meaning.{SquarefreeModulus}
use Rattle.integers.specs.Integers.{integers}
use Rattle.integers.specs.Squarefree.{NoSquareDivides, ModulusWord}
use Rattle.domains.proofs.Decisions.{decides_like}
use Rattle.integers.specs.SquarefreeNumbers.{word_bounds, squarefree_modulus, modulus_word}
use Rattle.integers.proofs.domain.Integers.is_modulus.Goals as goal

-- a legal word is a modulus exactly when no square divides it
pub returns-then-is_legal : goal.returns-then-is_legal
returns-then-is_legal c =
    let w = c.args.w in
    let b = word_bounds w (sym c.if-is_legal.ensures) in
    let plain = decides_like c.no_square_divides.result (NoSquareDivides w) (ModulusWord w) (λ f. record { large = b.low; small = omega arith; free = f }) (λ m. m.free) (search rules) in
    record { meant = decides_like c.no_square_divides.result (ModulusWord w) (SquarefreeModulus integers w) (squarefree_modulus w) (modulus_word w) plain; plain = plain }
