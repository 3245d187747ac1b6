-- The chain of divisions of Euclid's extended algorithm: what it keeps from division to division, and what the laws of a
-- domain say of one division, from the answers of the domain's calls. Assumes nothing.
use Rattle.std.specs.Prelude.{◌≡◌, ◌<◌, true}
use Rattle.algebra.specs.Divisibility.{Divides, Congruent}
use Rattle.algebra.specs.Weight.{weight}
use Rattle.domains.specs.Answers.{IsZero, times}
use Rattle.domains.specs.Euclid.{Descended}
use Rattle.domains.specs.View.{View, element_of, modulus_of, IsDifference, IsModulusQuotient, IsNormalMultiple, IsProduct, IsQuotient, OwnPair, OwnZero}
use Rattle.domains.specs.declared.chain.Link.{Link}

-- a value a and a modulus m of a domain
module _ {V : Type 0} {N : Type 0} (D : View V N) (m : N) (a : V) where
  -- A link of the chain for a modulo m. All is the domain's own, each of the two neighbours is congruent to its cofactor
  -- times a, the two have the same common divisors as a and m, and the last is not 0.
  pub record Chained (l : Link V) : Type 0 where
    pub own_modulus : D.own_modulus m ≡ true
    pub own_last : D.own l.last ≡ true
    pub own_last_cofactor : D.own l.last_cofactor ≡ true
    pub own_next : D.own l.next ≡ true
    pub own_next_cofactor : D.own l.next_cofactor ≡ true
    pub last_multiple : Congruent D.meaning.euclidean.ring (modulus_of D m) (element_of D l.last) (times D.meaning (D.word l.last_cofactor) (D.word a))
    pub next_multiple : Congruent D.meaning.euclidean.ring (modulus_of D m) (element_of D l.next) (times D.meaning (D.word l.next_cofactor) (D.word a))
    pub down_last : (d : D.meaning.Element) → Divides D.meaning.euclidean.ring d (element_of D a) → Divides D.meaning.euclidean.ring d (modulus_of D m) → Divides D.meaning.euclidean.ring d (element_of D l.last)
    pub down_next : (d : D.meaning.Element) → Divides D.meaning.euclidean.ring d (element_of D a) → Divides D.meaning.euclidean.ring d (modulus_of D m) → Divides D.meaning.euclidean.ring d (element_of D l.next)
    pub up_value : (d : D.meaning.Element) → Divides D.meaning.euclidean.ring d (element_of D l.last) → Divides D.meaning.euclidean.ring d (element_of D l.next) → Divides D.meaning.euclidean.ring d (element_of D a)
    pub up_modulus : (d : D.meaning.Element) → Divides D.meaning.euclidean.ring d (element_of D l.last) → Divides D.meaning.euclidean.ring d (element_of D l.next) → Divides D.meaning.euclidean.ring d (modulus_of D m)
    pub last_nonzero : ¬ IsZero D.meaning (D.word l.last)

  -- a link whose next neighbour is not 0
  pub record Open (l : Link V) : Type 0 where
    pub chained : Chained l
    pub more : ¬ OwnZero D l.next

  -- what the chain finds: a greatest common divisor, with its cofactor
  pub record Found (g c : V) : Type 0 where
    pub own_divisor : D.own g ≡ true
    pub own_cofactor : D.own c ≡ true
    pub descended : Descended D.meaning (modulus_of D m) (element_of D a) (element_of D g) (element_of D c)

  -- a value and a modulus of the domain's own, the value not 0
  pub record Dividing : Type 0 where
    pub own_value : D.own a ≡ true
    pub own_modulus : D.own_modulus m ≡ true
    pub nonzero : ¬ IsZero D.meaning (D.word a)

  -- values of the domain's own that stand for 0 and 1
  pub record Constants (z e : V) : Type 0 where
    pub own_zero : D.own z ≡ true
    pub own_one : D.own e ≡ true
    pub is_zero : IsZero D.meaning (D.word z)
    pub is_one : element_of D e ≡ D.meaning.euclidean.ring.one

  -- what the laws say of the chain, in terms of what the domain's calls answer
  pub record ChainLaws : Type 0 where
    -- a − a is 0, and its normal multiple comes with the unit 1
    pub constants : (z n e : V) → Dividing → IsDifference D a a m z → D.own z ≡ true → IsNormalMultiple D z n e → OwnPair D n e → Constants z e
    -- the first division, of the modulus by the value; the cofactors are 1 and 0 − q
    pub start : (z e q r c : V) → Dividing → Constants z e → IsModulusQuotient D m a q r → OwnPair D q r → IsDifference D z q m c → D.own c ≡ true → Chained (record { last = a; last_cofactor = e; next = r; next_cofactor = c })
    -- a further division, of a neighbour by the next
    pub step : (l : Link V) (q r p c : V) → Open l → IsQuotient D l.last l.next q r → OwnPair D q r → IsProduct D q l.next_cofactor m p → D.own p ≡ true → IsDifference D l.last_cofactor p m c → D.own c ≡ true → Chained (record { last = l.next; last_cofactor = l.next_cofactor; next = r; next_cofactor = c })
    -- with each the next neighbour weighs less
    pub falls : (l : Link V) (q r : V) → Open l → IsQuotient D l.last l.next q r → weight D.meaning.euclidean (element_of D r) < weight D.meaning.euclidean (element_of D l.next)
    -- the end of the chain: the last neighbour is a greatest common divisor
    pub end : (l : Link V) → Chained l → OwnZero D l.next → Found l.last l.last_cofactor
