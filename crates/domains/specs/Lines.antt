-- How Euclid's answers are printed. Assumes nothing.
use Rattle.std.specs.Prelude.{ℕ, List, ◌++◌, codes, decimal}
use Rattle.domains.specs.declared.gcd.Answer.{Answer}
use Rattle.domains.specs.declared.gcd.Answer.TheVariants.{Zero, Inverse, Factor}

-- the line of an answer whose values are words
abbrev pub answer_line : Answer ℕ → List ℕ
answer_line Zero = codes "zero"
answer_line (Inverse w) = codes "inverse " ++ decimal w
answer_line (Factor f) = codes "factor " ++ decimal f.divisor
