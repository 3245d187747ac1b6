-- What a domain means, and the laws that it keeps. A word is a whole number below 2^64. Assumes nothing.
use Rattle.std.specs.Prelude.{◌≡◌, ℕ, ◌≤◌, Bool, true, ◌&&◌, ◌↔◌, List, length, ◌==◌}
use Rattle.algebra.specs.Divisibility.{minus, Divides, IsUnit, Squarefree, product, NonUnits}
use Rattle.algebra.specs.Euclidean.{Euclidean, EuclideanLaws}

-- The meaning of a domain: a ring with sizes and normal elements, an element for every word, the legal moduli, and the
-- remainder of every element modulo a legal modulus, with the one word that spells it.
pub record Meaning : Type 1 where
  -- the elements of the ring
  pub Element : Type 0
  -- the ring, with decided equality, sizes and normal elements
  pub euclidean : Euclidean Element
  -- the element that a word stands for
  pub element : ℕ → Element
  -- which elements are legal moduli
  pub legal : Element → Bool
  -- `remainder m a` is the remainder of a modulo m
  pub remainder : Element → Element → Element
  -- the canonical word of an element
  pub word : Element → ℕ

-- Laws that every domain keeps.
pub record Laws (M : Meaning) : Type 0 where
  -- the ring is commutative (it is mathlib's `CommRing`) and has no zero divisors, there is division with remainder,
  -- and exactly one unit multiple of every non-zero element is normal: see `EuclideanLaws`
  pub euclidean : EuclideanLaws M.euclidean
  -- modulo a legal m, a remainder differs from its element by a multiple of m
  pub remainder_differs : (m a : M.Element) → M.legal m ≡ true → Divides M.euclidean.ring m (minus M.euclidean.ring a (M.remainder m a))
  -- and two remainders are equal exactly when m divides the difference of the elements
  pub remainder_equal : (m a b : M.Element) → M.legal m ≡ true → (M.remainder m a ≡ M.remainder m b) ↔ Divides M.euclidean.ring m (minus M.euclidean.ring a b)
  -- 0 is its own remainder
  pub remainder_zero : (m : M.Element) → M.legal m ≡ true → M.remainder m M.euclidean.ring.zero ≡ M.euclidean.ring.zero
  -- 1 is its own remainder
  pub remainder_one : (m : M.Element) → M.legal m ≡ true → M.remainder m M.euclidean.ring.one ≡ M.euclidean.ring.one
  -- every remainder is the element of its one canonical word
  pub word_remainder : (m a : M.Element) → M.legal m ≡ true → M.element (M.word (M.remainder m a)) ≡ M.remainder m a
  -- and so are 0 and 1
  pub word_zero : M.element (M.word M.euclidean.ring.zero) ≡ M.euclidean.ring.zero
  pub word_one : M.element (M.word M.euclidean.ring.one) ≡ M.euclidean.ring.one
  -- and every legal modulus
  pub word_legal : (m : M.Element) → M.legal m ≡ true → M.element (M.word m) ≡ m
  -- a legal modulus is normal
  pub legal_normal : (m : M.Element) → M.legal m ≡ true → M.euclidean.normal m ≡ true
  -- and no unit
  pub legal_no_unit : (m : M.Element) → M.legal m ≡ true → ¬ IsUnit M.euclidean.ring m
  -- a normal non-unit divisor of a legal modulus is legal
  pub legal_divisor : (m d : M.Element) → M.legal m ≡ true → Divides M.euclidean.ring d m → M.euclidean.normal d ≡ true → ¬ IsUnit M.euclidean.ring d → M.legal d ≡ true
  -- no legal modulus is a product of more than 32 non-units
  pub few_factors : (m : M.Element) (xs : List M.Element) → M.legal m ≡ true → NonUnits M.euclidean.ring xs → product M.euclidean.ring xs ≡ m → length xs ≤ 32

-- The residue of an element: the canonical word of its remainder.
abbrev pub residue : (M : Meaning) → M.Element → M.Element → ℕ
residue M m a = M.word (M.remainder m a)

-- A word is a legal modulus when its element is one and it is that element's canonical word.
abbrev pub legal_word : Meaning → ℕ → Bool
legal_word M w = M.legal (M.element w) && M.word (M.element w) == w

-- A word that is a legal modulus, and squarefree.
pub record SquarefreeModulus (M : Meaning) (w : ℕ) : Type 0 where
  pub legal : legal_word M w ≡ true
  pub squarefree : Squarefree M.euclidean.ring (M.element w)
