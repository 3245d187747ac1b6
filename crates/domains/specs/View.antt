-- How a domain is seen from outside: what it means, the words of its values and moduli, and which of them are its own.
-- Assumes nothing.
use Rattle.std.specs.Prelude.{◌≡◌, ℕ, Bool, true, cond, ◌&&◌, MatchBool}
use Rattle.domains.specs.Answers.{Residue, IsZero, Divided, Normalized, Zeros, sum, difference, times}
use Rattle.domains.specs.Meaning.{Meaning, Laws, SquarefreeModulus}

-- a domain with the values V and the moduli N
pub record View (V : Type 0) (N : Type 0) : Type 1 where
  -- its ring, the element of every word, the legal moduli, the remainders
  pub meaning : Meaning
  -- the word of a value, and of a modulus
  pub word : V → ℕ
  pub modulus_word : N → ℕ
  -- whether a value, or a modulus, is the domain's own: a domain may share its types with others of its kind
  pub own : V → Bool
  pub own_modulus : N → Bool

-- the laws that a domain keeps
pub record Lawful {V : Type 0} {N : Type 0} (D : View V N) : Type 0 where
  -- those of its ring, its remainders and its legal moduli
  pub laws : Laws D.meaning
  -- an own value has the canonical word of its element
  pub spelled : (a : V) → D.own a ≡ true → D.meaning.word (D.meaning.element (D.word a)) ≡ D.word a
  -- an own modulus is legal and squarefree
  pub sound : (m : N) → D.own_modulus m ≡ true → SquarefreeModulus D.meaning (D.modulus_word m)

-- what the calls of a domain answer for values and moduli
module _ {V : Type 0} {N : Type 0} (D : View V N) where
  -- the element of a value, and of a modulus
  abbrev pub element_of : V → D.meaning.Element
  element_of v = D.meaning.element (D.word v)

  abbrev pub modulus_of : N → D.meaning.Element
  modulus_of m = D.meaning.element (D.modulus_word m)

  -- both values are the domain's own
  abbrev pub OwnPair : V → V → Type 0
  OwnPair x y = (D.own x ≡ true) × (D.own y ≡ true)

  -- the value stands for 0
  abbrev pub OwnZero : V → Type 0
  OwnZero a = (D.own a ≡ true) × IsZero D.meaning (D.word a)

  -- the word of a value and of a modulus; 0 for one that is not the domain's own
  abbrev pub shown_word : V → ℕ
  shown_word a = cond (D.own a) (D.word a) 0

  abbrev pub shown_modulus : N → ℕ
  shown_modulus m = cond (D.own_modulus m) (D.modulus_word m) 0

  -- r is the residue of the element of a word
  abbrev pub IsResidue : ℕ → N → V → Type 0
  IsResidue w m r = Residue D.meaning (D.own_modulus m) (D.modulus_word m) (D.meaning.element w) (D.word r)

  -- r is the residue of what an operation on the elements of two words makes of a and b
  abbrev pub Combined : (ℕ → ℕ → D.meaning.Element) → V → V → N → V → Type 0
  Combined f a b m r = Residue D.meaning ((D.own a && D.own b) && D.own_modulus m) (D.modulus_word m) (f (D.word a) (D.word b)) (D.word r)

  -- of their sum, their difference and their product
  abbrev pub IsSum : V → V → N → V → Type 0
  IsSum = Combined (sum D.meaning)

  abbrev pub IsDifference : V → V → N → V → Type 0
  IsDifference = Combined (difference D.meaning)

  abbrev pub IsProduct : V → V → N → V → Type 0
  IsProduct = Combined (times D.meaning)

  -- q and r are quotient and remainder of a word by b, where `own` says that the two are the domain's own
  abbrev pub Parts : Bool → ℕ → V → V → V → Type 0
  Parts own a b q r = MatchBool own (Divided D.meaning a (D.word b) (D.word q) (D.word r)) (Zeros D.meaning (D.word q) (D.word r))

  -- of a value by a value, and of a modulus by a value
  abbrev pub IsQuotient : V → V → V → V → Type 0
  IsQuotient a b = Parts (D.own a && D.own b) (D.word a) b

  abbrev pub IsModulusQuotient : N → V → V → V → Type 0
  IsModulusQuotient m b = Parts (D.own_modulus m && D.own b) (D.modulus_word m) b

  -- n is the normal multiple of a, by the unit u
  abbrev pub IsNormalMultiple : V → V → V → Type 0
  IsNormalMultiple a n u = MatchBool (D.own a) (Normalized D.meaning (D.word a) (D.word n) (D.word u)) (Zeros D.meaning (D.word n) (D.word u))

  -- m is an own modulus with the word w
  abbrev pub IsModulus : ℕ → N → Type 0
  IsModulus w m = (D.own_modulus m ≡ true) × (D.modulus_word m ≡ w)
