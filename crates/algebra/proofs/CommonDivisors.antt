-- The common divisors of two elements through a chain of divisions: at the end of the chain the two are coprime exactly
-- when the last divisor is a unit. Assumes nothing.
use mathlib.Core.Path.{◌≡◌, sym}
use mathlib.Core.Logic.{◌↔◌, ◌≢◌, ◌⊎◌, inl, inr}
use mathlib.Mathlib.Algebra.Ring.Defs.{CommRing}
use Prim.Native.Nat.{◌<◌}
use native.Mathlib.Omega.{arith}
use Rattle.algebra.specs.Divisibility.{Divides, IsUnit, Coprime}
use Rattle.algebra.specs.Euclidean.{Euclidean, EuclideanLaws, Division}
use Rattle.algebra.specs.Weight.{weigh, weight}
use Rattle.algebra.proofs.Divides.{divides_self, divides_zero, divides_eq, divides_trans}
use Rattle.algebra.proofs.Bezout.{divides_remainder, divides_dividend}

module _ {R : Type 0} (𝓡 : CommRing R) where
  -- a and b have the same common divisors as x and y
  pub record SameDivisors (a b x y : R) : Type 0 where
    pub down : (d : R) → Divides 𝓡 d a → Divides 𝓡 d b → Divides 𝓡 d x × Divides 𝓡 d y
    pub up : (d : R) → Divides 𝓡 d x → Divides 𝓡 d y → Divides 𝓡 d a × Divides 𝓡 d b

  pub same_start : (a b : R) → SameDivisors a b a b
  same_start a b = record { down = λ d p q. (p, q); up = λ d p q. (p, q) }

  -- with 0 left, the last divisor is a unit exactly when the two are coprime
  pub same_end : (a b x y : R) → SameDivisors a b x y → y ≡ 𝓡.zero → IsUnit 𝓡 x ↔ Coprime 𝓡 a b
  same_end a b x y s z = (
    λ u d p q. divides_trans 𝓡 (s.down d p q).0 u,
    λ h. let e = s.up x (divides_self 𝓡 x) (divides_eq 𝓡 (divides_zero 𝓡 x) (sym z)) in h x e.0 e.1,
  )

module _ {R : Type 0} {E : Euclidean R} (L : EuclideanLaws E) where
  -- one division more
  pub same_step : (a b x y q r : R) → SameDivisors E.ring a b x y → Division E x y q r → SameDivisors E.ring a b y r
  same_step a b x y q r s v = record {
    down = λ d p q. let e = s.down d p q in (e.1, divides_remainder L v e.0 e.1);
    up = λ d p q. s.up d (divides_dividend L v p q) p;
  }

  -- the remainder of a division weighs less than the divisor
  pub weight_falls : (a b q r : R) → Division E a b q r → b ≢ E.ring.zero → weight E r < weight E b
  weight_falls a b q r v ne = go (E.equal r E.ring.zero) (E.equal b E.ring.zero) v.small
    where
      go : (x : Dec (r ≡ E.ring.zero)) (y : Dec (b ≡ E.ring.zero)) → (r ≡ E.ring.zero) ⊎ (E.size r < E.size b) → weigh x (E.size r) < weigh y (E.size b)
      go x (yes z) s = absurd (ne z)
      go (yes z) (no k) s = omega arith
      go (no j) (no k) (inl z) = absurd (j z)
      go (no j) (no k) (inr s) = omega arith
