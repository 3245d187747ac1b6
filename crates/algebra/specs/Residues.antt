-- Residues modulo an element of a commutative ring. Assumes nothing.
use Rattle.std.specs.Prelude.{◌≡◌}
use mathlib.Mathlib.Algebra.Ring.Defs.{CommRing}
use Rattle.algebra.specs.Divisibility.{Congruent}

module _ {R : Type 0} (𝓡 : CommRing R) (m : R) where
  -- a way to pick one element out of all that are congruent to one another modulo m
  pub record Remainders : Type 0 where
    pub remainder : R → R
    -- an element is congruent to its remainder
    pub congruent : (a : R) → Congruent 𝓡 m a (remainder a)
    -- congruent elements have the same remainder
    pub same : (a b : R) → Congruent 𝓡 m a b → remainder a ≡ remainder b

  -- the elements that are their own remainders
  abbrev pub Residue : Remainders → Type 0
  Residue ρ = (a : R) × (ρ.remainder a ≡ a)
