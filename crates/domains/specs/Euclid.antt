-- What Euclid answers for an element a and a legal modulus m. Assumes nothing.
use Rattle.std.specs.Prelude.{◌≡◌, ℕ, Bool, true}
use Rattle.algebra.specs.Divisibility.{Divides, Congruent, GreatestCommonDivisor}
use Rattle.domains.specs.Meaning.{Meaning, residue}
use Rattle.domains.specs.declared.gcd.Answer.{Answer}
use Rattle.domains.specs.declared.gcd.Answer.TheVariants.{Zero, Inverse, Factor}

-- an answer with its value as a word: no inverse since the element is 0, the inverse, or a proper factor of the modulus
pub data Outcome : Type 0 where
  is_zero : Outcome
  has_inverse : ℕ → Outcome
  has_factor : ℕ → Outcome

-- P holds of x and of nothing else
pub record Only {A : Type 0} (P : A → Type 0) (x : A) : Type 0 where
  pub holds : P x
  pub alone : (y : A) → P y → y ≡ x

module _ (M : Meaning) (m a : M.Element) where
  -- w is the residue whose product with a has remainder 1
  pub record InverseWord (w : ℕ) : Type 0 where
    pub reduced : w ≡ residue M m (M.element w)
    pub product : M.remainder m (M.euclidean.ring.mul a (M.element w)) ≡ M.euclidean.ring.one

  -- w is the canonical word of the normal common divisor of a and m that every common divisor divides
  pub record FactorWord (w : ℕ) : Type 0 where
    pub spelled : M.word (M.element w) ≡ w
    pub normal : M.euclidean.normal (M.element w) ≡ true
    pub greatest : GreatestCommonDivisor M.euclidean.ring a m (M.element w)

  -- Zero if m divides a; the inverse, if there is one; otherwise the factor
  abbrev pub Answers : Outcome → Type 0
  Answers is_zero = Divides M.euclidean.ring m a
  Answers (has_inverse w) = (¬ Divides M.euclidean.ring m a) × InverseWord w
  Answers (has_factor w) = (¬ Divides M.euclidean.ring m a) × ((v : ℕ) → ¬ InverseWord v) × FactorWord w

  -- g is a greatest common divisor of a and m and not 0, and congruent to c times a
  pub record Descended (g c : M.Element) : Type 0 where
    pub greatest : GreatestCommonDivisor M.euclidean.ring a m g
    pub multiple : Congruent M.euclidean.ring m g (M.euclidean.ring.mul c a)
    pub not_zero : ¬ (g ≡ M.euclidean.ring.zero)

module _ {V : Type 0} where
  -- an answer of the code, by the words of its values
  abbrev pub outcome : (V → ℕ) → Answer V → Outcome
  outcome word Zero = is_zero
  outcome word (Inverse v) = has_inverse (word v)
  outcome word (Factor f) = has_factor (word f.divisor)

  -- the value in an answer is the domain's own
  abbrev pub OwnAnswer : (V → Bool) → Answer V → Type 0
  OwnAnswer own Zero = Unit {0}
  OwnAnswer own (Inverse v) = own v ≡ true
  OwnAnswer own (Factor f) = own f.divisor ≡ true
