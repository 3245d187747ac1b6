-- Remainders modulo a polynomial m other than 0: there is one, and only one, that is smaller than m. Assumes nothing.
use mathlib.Core.Path.{◌≡◌, sym, ap, ap₂, ◌∙◌}
use mathlib.Core.Logic.{◌≢◌, ◌⊎◌, inl, inr, ◌↔◌}
use Prim.Native.Nat.{◌≤◌, ◌<◌}
use native.Mathlib.Omega.{arith}
use Rattle.algebra.specs.Field.{Field}
use Rattle.algebra.specs.Divisibility.{Divides, minus, Congruent}
use Rattle.algebra.specs.Euclidean.{Division}
use Rattle.algebra.specs.Residues.{Remainders}
use Rattle.algebra.proofs.Ring
use Rattle.algebra.proofs.Congruence.{congruent_self, congruent_symmetric, congruent_trans}
use Rattle.algebra.proofs.Residues.{remainder_congruent as residue_congruent}
use Rattle.polynomials.specs.Sequence.{Vanishes}
use Rattle.polynomials.specs.Polynomial.{Polynomial, degree}
use Rattle.polynomials.specs.Remainder.{remainder}
use Rattle.polynomials.proofs.Equality.{equal_polynomials}
use Rattle.polynomials.proofs.Coefficients.{coefficient_zero}
use Rattle.polynomials.proofs.Ring.{polynomial_ring, coefficient_minus}
use Rattle.polynomials.proofs.Degree.{above_degree, degree_below, degree_one}
use Rattle.polynomials.proofs.Units.{degree_left}
use Rattle.polynomials.proofs.Euclidean.{polynomials}
use Rattle.polynomials.proofs.Division.{quotient_remainder, remainder_small}

module _ {K : Type 0} (𝓚 : Field K) (m : Polynomial 𝓚) where
  open polynomial_ring 𝓚 use {add as ◌+◌, mul as ◌*◌, zero as 𝟘, one as 𝟙}

  infixl 65 ◌+◌
  infixl 70 ◌*◌
  -- p has fewer coefficients than m: it is 0 or of smaller degree
  abbrev pub Smaller : Polynomial 𝓚 → Type 0
  Smaller p = Vanishes 𝓚.ring p.coefficient (degree 𝓚 m)

  -- the same in terms of the degree
  pub smaller_degree : (p : Polynomial 𝓚) → Smaller p → (p ≡ 𝟘) ⊎ (degree 𝓚 p < degree 𝓚 m)
  smaller_degree p v = elim (equal_polynomials 𝓚 p 𝟘) [ yes e ↦ inl e | no h ↦ inr (degree_below 𝓚 p (degree 𝓚 m) h v) ]

  -- and back
  pub degree_smaller : (p : Polynomial 𝓚) → (p ≡ 𝟘) ⊎ (degree 𝓚 p < degree 𝓚 m) → Smaller p
  degree_smaller p (inl e) i _ = ap (λ (q : Polynomial 𝓚). q.coefficient i) e ∙ coefficient_zero 𝓚 i
  degree_smaller p (inr h) i k = above_degree 𝓚 p i (omega arith)

  -- the only multiple of m that is smaller than m is 0
  pub smaller_multiple : (p : Polynomial 𝓚) → Smaller p → Divides (polynomial_ring 𝓚) m p → p ≡ 𝟘
  smaller_multiple p v (c, e) =
      elim (equal_polynomials 𝓚 p 𝟘) [
        | yes z ↦ z
        | no k ↦ absurd (omega (arith, degree_below 𝓚 p (degree 𝓚 m) k v, degree_left 𝓚 m c (λ z. k (sym e ∙ z)), ap (degree 𝓚) e))
      ]

  -- two smaller polynomials that are congruent are equal: a remainder is unique
  pub remainder_unique : (p q : Polynomial 𝓚) → Smaller p → Smaller q → Congruent (polynomial_ring 𝓚) m p q → p ≡ q
  remainder_unique p q hp hq h = Ring.sub_zero_eq (polynomial_ring 𝓚) p q (smaller_multiple (minus (polynomial_ring 𝓚) p q) difference h)
    where
      difference : Smaller (minus (polynomial_ring 𝓚) p q)
      difference i k = coefficient_minus 𝓚 p q i ∙ ap₂ (minus 𝓚.ring) (hp i k) (hq i k) ∙ Ring.sub_self 𝓚.ring 𝓚.ring.zero

  -- a multiple of m and r is congruent to r
  sum_congruent : (p q r : Polynomial 𝓚) → p ≡ q * m + r → Congruent (polynomial_ring 𝓚) m p r
  sum_congruent p q r e =
      (q, sym (Ring.sub_eq (polynomial_ring 𝓚) p r (m * q) (e ∙ Ring.add_comm (polynomial_ring 𝓚) (q * m) r ∙ ap (λ x. r + x) (Ring.mul_comm (polynomial_ring 𝓚) q m))))

  -- m divides p minus its remainder
  pub remainder_congruent : (p : Polynomial 𝓚) → Congruent (polynomial_ring 𝓚) m p (remainder 𝓚 m p)
  remainder_congruent p = let (q, e) = quotient_remainder 𝓚 m p in sum_congruent p q (remainder 𝓚 m p) e

  module _ (m_not_zero : m ≢ 𝟘) where
    -- what is smaller than m and congruent to p is the remainder of p
    pub remainder_is : (p r : Polynomial 𝓚) → Smaller r → Congruent (polynomial_ring 𝓚) m p r → remainder 𝓚 m p ≡ r
    remainder_is p r v h =
        remainder_unique (remainder 𝓚 m p) r (remainder_small 𝓚 m m_not_zero p) v
        (congruent_trans (polynomial_ring 𝓚) (congruent_symmetric (polynomial_ring 𝓚) (remainder_congruent p)) h)

    -- and so is the remainder of any division
    pub division_remainder : (p q r : Polynomial 𝓚) → Division (polynomials 𝓚) p m q r → remainder 𝓚 m p ≡ r
    division_remainder p q r d = remainder_is p r (degree_smaller r d.small) (sum_congruent p q r d.sum)

    -- what is smaller than m is its own remainder
    pub remainder_self : (p : Polynomial 𝓚) → Smaller p → remainder 𝓚 m p ≡ p
    remainder_self p v = remainder_is p p v (congruent_self (polynomial_ring 𝓚) p)

    -- 0 is,
    pub remainder_zero : remainder 𝓚 m 𝟘 ≡ 𝟘
    remainder_zero = remainder_self 𝟘 (λ i _. coefficient_zero 𝓚 i)

    -- and 1, unless m is a constant
    pub remainder_one : 1 ≤ degree 𝓚 m → remainder 𝓚 m 𝟙 ≡ 𝟙
    remainder_one h = remainder_self 𝟙 (λ i k. above_degree 𝓚 𝟙 i (omega (arith, degree_one 𝓚)))

    -- remainders pick one out of all congruent polynomials
    abbrev pub remainders : Remainders (polynomial_ring 𝓚) m
    remainders = record {
      remainder = remainder 𝓚 m;
      congruent = remainder_congruent;
      same = λ p q h. remainder_is p (remainder 𝓚 m q) (remainder_small 𝓚 m m_not_zero q) (congruent_trans (polynomial_ring 𝓚) h (remainder_congruent q));
    }

    -- remainders are equal exactly when m divides the difference
    pub remainder_equal : (p q : Polynomial 𝓚) → (remainder 𝓚 m p ≡ remainder 𝓚 m q) ↔ Congruent (polynomial_ring 𝓚) m p q
    remainder_equal p q = (residue_congruent (polynomial_ring 𝓚) m remainders p q, remainders.same p q)
