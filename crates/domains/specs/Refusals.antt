-- The number of every refusal, and when a modulus is refused. Assumes nothing.
use Rattle.std.specs.Prelude.{◌≡◌, ℕ, true, false, List, ◌++◌, codes, decimal}
use Rattle.algebra.specs.Divisibility.{Squarefree}
use Rattle.domains.specs.Meaning.{Meaning, legal_word}
use Rattle.domains.specs.declared.refusal.Reason.{Reason}
use Rattle.domains.specs.declared.refusal.Refusal.{Refusal}
use Rattle.domains.specs.declared.refusal.Reason.TheVariants.{ProgramLength, UnknownCommand, MissingOperands, OperandRange, JumpTarget, LastCommand, SystemShape, UnlistedPrime, IllegalModulus, RepeatedFactor, ZeroLimit, NoOpenRow, OpenRow}

abbrev pub number_of : Reason → ℕ
number_of ProgramLength = 1
number_of UnknownCommand = 2
number_of MissingOperands = 3
number_of OperandRange = 4
number_of JumpTarget = 5
number_of LastCommand = 6
number_of SystemShape = 7
number_of UnlistedPrime = 8
number_of IllegalModulus = 9
number_of RepeatedFactor = 10
number_of ZeroLimit = 11
number_of NoOpenRow = 12
number_of OpenRow = 13

-- the reason in words
abbrev pub text_of : Reason → List ℕ
text_of ProgramLength = codes "the program has no bytes or more than 1,024"
text_of UnknownCommand = codes "an unknown command byte"
text_of MissingOperands = codes "a command's operands run past the end"
text_of OperandRange = codes "a cell of 64 or more, or an end code over 239"
text_of JumpTarget = codes "a jump goes to no command"
text_of LastCommand = codes "the last command is neither GO nor END"
text_of SystemShape = codes "the equations or unknowns are not 1 to 7, or the matrix has another number of words"
text_of UnlistedPrime = codes "p is not in the list of primes"
text_of IllegalModulus = codes "the modulus is not legal"
text_of RepeatedFactor = codes "the modulus is not squarefree"
text_of ZeroLimit = codes "the limit is 0"
text_of NoOpenRow = codes "there is no open row to work on"
text_of OpenRow = codes "the table has an open row"

-- how a refusal is printed
abbrev pub line : Refusal → List ℕ
line x = codes "refused " ++ (decimal (number_of x.reason) ++ (codes " place " ++ (decimal x.place ++ (codes ": " ++ text_of x.reason))))

-- why a word is no modulus: it is not legal, or it is legal and not squarefree; no other reason is given
abbrev pub RefusesModulus : Meaning → ℕ → Reason → Type 0
RefusesModulus M w ProgramLength = ⊥
RefusesModulus M w UnknownCommand = ⊥
RefusesModulus M w MissingOperands = ⊥
RefusesModulus M w OperandRange = ⊥
RefusesModulus M w JumpTarget = ⊥
RefusesModulus M w LastCommand = ⊥
RefusesModulus M w SystemShape = ⊥
RefusesModulus M w UnlistedPrime = ⊥
RefusesModulus M w IllegalModulus = legal_word M w ≡ false
RefusesModulus M w RepeatedFactor = (legal_word M w ≡ true) × (¬ Squarefree M.euclidean.ring (M.element w))
RefusesModulus M w ZeroLimit = ⊥
RefusesModulus M w NoOpenRow = ⊥
RefusesModulus M w OpenRow = ⊥

-- the refusal of such a word; it speaks of no command
abbrev pub ModulusRefusal : Meaning → ℕ → Refusal → Type 0
ModulusRefusal M w e = RefusesModulus M w e.reason × (e.place ≡ 0)
