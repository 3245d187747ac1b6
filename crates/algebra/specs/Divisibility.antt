-- Divisibility in a commutative ring: the words that every statement about moduli uses.
-- The ring is mathlib's `CommRing`. Assumes nothing.
use Rattle.std.specs.Prelude.{◌≡◌, ◌≢◌, List, [], ◌∷◌}
use mathlib.Mathlib.Algebra.Ring.Defs.{CommRing}

module _ {R : Type 0} (𝓡 : CommRing R) where
  -- a − b
  abbrev pub minus : R → R → R
  minus a b = 𝓡.add a (𝓡.neg b)

  -- a divides b: b is a times something
  abbrev pub Divides : R → R → Type 0
  Divides a b = (c : R) × (𝓡.mul a c ≡ b)

  -- a and b are congruent modulo m: m divides their difference
  abbrev pub Congruent : R → R → R → Type 0
  Congruent m a b = Divides m (minus a b)

  -- a unit divides 1
  abbrev pub IsUnit : R → Type 0
  IsUnit a = Divides a 𝓡.one

  -- an irreducible is not 0, no unit, and no product of two non-units
  pub record Irreducible (a : R) : Type 0 where
    pub not_zero : a ≢ 𝓡.zero
    pub not_unit : ¬ IsUnit a
    pub no_product : (b c : R) → a ≡ 𝓡.mul b c → ¬ IsUnit b → ¬ IsUnit c → ⊥

  -- two elements are coprime when only units divide both
  abbrev pub Coprime : R → R → Type 0
  Coprime a b = (d : R) → Divides d a → Divides d b → IsUnit d

  -- no square of a non-unit divides a squarefree element
  abbrev pub Squarefree : R → Type 0
  Squarefree a = (d : R) → Divides (𝓡.mul d d) a → IsUnit d

  -- the same where it is decided which elements are units: the square of a non-unit does not divide it
  abbrev pub NoSquareDivides : R → Type 0
  NoSquareDivides a = (d : R) → Divides (𝓡.mul d d) a → ¬ IsUnit d → ⊥

  -- the product of a list, 1 for the empty one
  abbrev pub product : List R → R
  product [] = 𝓡.one
  product (x ∷ xs) = 𝓡.mul x (product xs)

  -- every element of the list is no unit
  abbrev pub NonUnits : List R → Type 0
  NonUnits [] = Unit {0}
  NonUnits (x ∷ xs) = (¬ IsUnit x) × NonUnits xs

  -- g divides a and b, and whatever divides both divides g
  pub record GreatestCommonDivisor (a b g : R) : Type 0 where
    pub divides_left : Divides g a
    pub divides_right : Divides g b
    pub greatest : (d : R) → Divides d a → Divides d b → Divides d g
