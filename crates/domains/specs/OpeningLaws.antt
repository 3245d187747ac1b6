-- What is answered where a word is inverted modulo another, and what the laws of a domain say of it. Assumes nothing.
use Rattle.std.specs.Prelude.{◌≡◌, ℕ, true}
use Rattle.domains.specs.Euclid.{Answers, Only, OwnAnswer, outcome}
use Rattle.domains.specs.EuclidLaws.{Answered}
use Rattle.domains.specs.Meaning.{SquarefreeModulus}
use Rattle.domains.specs.View.{View, IsModulus, IsResidue}
use Rattle.domains.specs.declared.gcd.Answer.{Answer}

module _ {V : Type 0} {N : Type 0} (D : View V N) (w f : ℕ) where
  -- f is a modulus, and x is Euclid's one answer for the element of w modulo that of f
  pub record InvertedWord (x : Answer V) : Type 0 where
    pub own_answer : OwnAnswer D.own x
    pub modulus : SquarefreeModulus D.meaning f
    pub answer : Only (Answers D.meaning (D.meaning.element f) (D.meaning.element w)) (outcome D.word x)

  -- a residue has the same answer as its word
  abbrev pub OpeningLaws : Type 0
  OpeningLaws = (m : N) (a : V) (x : Answer V) → IsModulus D f m → IsResidue D w m a → D.own a ≡ true → Answered D m a x → InvertedWord x
