-- What it means to split a modulus by a factor. Assumes nothing.
use Rattle.std.specs.Prelude.{◌≡◌, ℕ, Bool, true, ◌⊎◌}
use Rattle.algebra.specs.Divisibility.{Divides, IsUnit, Irreducible, Coprime}
use Rattle.domains.specs.Meaning.{Meaning}

module _ (M : Meaning) (m : M.Element) where
  -- g is a normal divisor of m, no unit, and no multiple of m
  pub record ProperFactor (g : M.Element) : Type 0 where
    pub divides : Divides M.euclidean.ring g m
    pub normal : M.euclidean.normal g ≡ true
    pub not_unit : ¬ IsUnit M.euclidean.ring g
    pub not_all : ¬ Divides M.euclidean.ring m g

  -- The halves f and c multiply to m and share nothing, so every irreducible divisor of m divides exactly one of them:
  -- no root is lost, and none is counted twice.
  pub record Halved (f c : M.Element) : Type 0 where
    pub product : M.euclidean.ring.mul f c ≡ m
    pub coprime : Coprime M.euclidean.ring f c
    pub one_half : (p : M.Element) → Irreducible M.euclidean.ring p → Divides M.euclidean.ring p m → (Divides M.euclidean.ring p f × (¬ Divides M.euclidean.ring p c)) ⊎ (Divides M.euclidean.ring p c × (¬ Divides M.euclidean.ring p f))

module _ (M : Meaning) (own : Bool) (m g : ℕ) where
  -- the words m and g are of an own modulus and an own value, and g is a proper factor of m
  pub record Splits : Type 0 where
    pub own_words : own ≡ true
    pub proper : ProperFactor M (M.element m) (M.element g)

  -- the words of the halves: g, and what it leaves of m
  pub record SplitInto (f c : ℕ) : Type 0 where
    pub splits : Splits
    pub factor : f ≡ g
    pub halved : Halved M (M.element m) (M.element f) (M.element c)
