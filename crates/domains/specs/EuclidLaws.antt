-- What the laws of a domain say of Euclid's answer, from the answers of the domain's calls. Assumes nothing.
use Rattle.std.specs.Prelude.{◌≡◌, ℕ, true, false, ◌&&◌, MatchBool}
use Rattle.algebra.specs.Divisibility.{Divides, Congruent}
use Rattle.domains.specs.Answers.{IsZero}
use Rattle.domains.specs.Chain.{Dividing, Found}
use Rattle.domains.specs.Euclid.{Answers, Only, OwnAnswer, is_zero, outcome}
use Rattle.domains.specs.Meaning.{legal_word}
use Rattle.domains.specs.View.{View, element_of, modulus_of, IsDifference, IsNormalMultiple, IsProduct, IsSum, OwnPair, OwnZero, shown_word}
use Rattle.domains.specs.declared.gcd.Answer.{Answer}
use Rattle.domains.specs.declared.gcd.Answer.TheVariants.{Zero, Inverse, Factor}

module _ {V : Type 0} {N : Type 0} (D : View V N) (m : N) (a : V) where
  -- Euclid's answer for a modulo m: the only one that the definition admits where both are the domain's own, else Zero;
  -- a value in it is the domain's own
  pub record Answered (x : Answer V) : Type 0 where
    pub own_answer : OwnAnswer D.own x
    pub answer : MatchBool (D.own a && D.own_modulus m) (Only (Answers D.meaning (modulus_of D m) (element_of D a)) (outcome D.word x)) (outcome D.word x ≡ is_zero)

  -- r is a value of the domain's own that is congruent to a, and 0 where a or m are not its own
  pub record Reduced (r : V) : Type 0 where
    pub own_reduced : D.own r ≡ true
    pub congruent : (D.own a && D.own_modulus m) ≡ true → Congruent D.meaning.euclidean.ring (modulus_of D m) (element_of D a) (element_of D r)
    pub zero_reduced : (D.own a && D.own_modulus m) ≡ true → Divides D.meaning.euclidean.ring (modulus_of D m) (element_of D a) → IsZero D.meaning (D.word r)
    pub own_nonzero : ¬ IsZero D.meaning (D.word r) → (D.own a && D.own_modulus m) ≡ true

  -- a and m are the domain's own, m does not divide a, and g is a greatest common divisor of the two with its cofactor c
  pub record Concluding (g c : V) : Type 0 where
    pub own_both : (D.own a && D.own_modulus m) ≡ true
    pub undivided : ¬ Divides D.meaning.euclidean.ring (modulus_of D m) (element_of D a)
    pub found : Found D m a g c

  -- the chain of divisions may start with r, and what it finds, it finds for a
  pub record Reducing (r : V) : Type 0 where
    pub dividing : Dividing D m r
    pub concluding : (g c : V) → Found D m r g c → Concluding g c

  -- what the laws say of the answer, in terms of what the domain's calls answer
  pub record EuclidLaws : Type 0 where
    -- a + (a − a) is reduced
    pub reduced : (z r : V) → IsDifference D a a m z → D.own z ≡ true → IsSum D a z m r → D.own r ≡ true → Reduced r
    -- where it is 0, so is the answer
    pub zero : (r : V) → Reduced r → OwnZero D r → Answered Zero
    -- where it is not, the chain of divisions may start
    pub reducing : (r : V) → Reduced r → ¬ OwnZero D r → Reducing r
    -- a normal divisor that is legal is the factor
    pub factor : (g c n u : V) (w : ℕ) → Concluding g c → IsNormalMultiple D g n u → OwnPair D n u → w ≡ shown_word D n → true ≡ legal_word D.meaning w → Answered (Factor (record { divisor = n }))
    -- one that is not is 1, and its cofactor times its unit is the inverse
    pub inverse : (g c n u i : V) (w : ℕ) → Concluding g c → IsNormalMultiple D g n u → OwnPair D n u → w ≡ shown_word D n → false ≡ legal_word D.meaning w → IsProduct D u c m i → D.own i ≡ true → Answered (Inverse i)
