-- The polynomials over a field form a commutative ring. Assumes nothing.
use mathlib.Core.Path.{◌≡◌, refl, sym, ap, ap₂, ◌∙◌}
use mathlib.Core.HLevel.{hedberg}
use mathlib.Mathlib.Algebra.Ring.Defs.{CommRing, IsCommRing}
use Prim.Native.Nat.{ℕ}
use Rattle.algebra.specs.Field.{Field}
use Rattle.algebra.specs.Divisibility.{minus}
use Rattle.algebra.proofs.Ring
use Rattle.polynomials.specs.Sequence.{convolution_zero}
use Rattle.polynomials.specs.Polynomial.{Polynomial, polynomial, zero_polynomial, one_polynomial, plus, negative, times}
use Rattle.polynomials.proofs.Convolution.{convolution_add, convolution_comm, convolution_assoc}
use Rattle.polynomials.proofs.Equality.{extensional, equal_polynomials}
use Rattle.polynomials.proofs.Coefficients.{coefficient_zero, coefficient_plus, coefficient_negative, coefficient_times, coefficient_scale}

module _ {K : Type 0} (𝓚 : Field K) where
  plus_comm : (p q : Polynomial 𝓚) → plus 𝓚 p q ≡ plus 𝓚 q p
  plus_comm p q = extensional 𝓚 _ _ (λ i. simp (coefficient_plus, Ring.add_comm))

  zero_plus : (p : Polynomial 𝓚) → plus 𝓚 (zero_polynomial 𝓚) p ≡ p
  zero_plus p = extensional 𝓚 _ _ (λ i. simp (coefficient_plus, coefficient_zero, Ring.zero-add))

  times_comm : (p q : Polynomial 𝓚) → times 𝓚 p q ≡ times 𝓚 q p
  times_comm p q =
      extensional 𝓚 _ _ (λ i. coefficient_times 𝓚 p q i ∙ convolution_comm 𝓚.ring p.coefficient q.coefficient i ∙ sym (coefficient_times 𝓚 q p i))

  times_assoc : (p q r : Polynomial 𝓚) → times 𝓚 (times 𝓚 p q) r ≡ times 𝓚 p (times 𝓚 q r)
  unfolding times polynomial
  times_assoc p q r = extensional 𝓚 _ _ (convolution_assoc 𝓚.ring p.coefficient q.coefficient r.coefficient)

  plus_times : (p q r : Polynomial 𝓚) → times 𝓚 (plus 𝓚 p q) r ≡ plus 𝓚 (times 𝓚 p r) (times 𝓚 q r)
  unfolding times plus polynomial
  plus_times p q r = extensional 𝓚 _ _ (convolution_add 𝓚.ring p.coefficient q.coefficient r.coefficient)

  one_times : (p : Polynomial 𝓚) → times 𝓚 (one_polynomial 𝓚) p ≡ p
  unfolding one_polynomial
  one_times p =
      extensional 𝓚 _ _ (λ i. coefficient_scale 𝓚 𝓚.ring.one p i ∙ Ring.one-mul 𝓚.ring (p.coefficient i))

  zero_times : (p : Polynomial 𝓚) → times 𝓚 (zero_polynomial 𝓚) p ≡ zero_polynomial 𝓚
  unfolding zero_polynomial times polynomial
  zero_times p = extensional 𝓚 _ _ (convolution_zero 𝓚.ring (λ _. 𝓚.ring.zero) p.coefficient (λ _ _. refl))

  -- the laws of a commutative ring, all together
  pub polynomial_ring_laws : IsCommRing (Polynomial 𝓚) (plus 𝓚) (times 𝓚) (zero_polynomial 𝓚) (negative 𝓚) (one_polynomial 𝓚)
  polynomial_ring_laws = record {
    is_ring = record {
      is_semiring = record {
        is_non_unital_semiring = record {
          is_non_unital_non_assoc_semiring = record {
            is_add_comm_monoid = record {
              is_add_monoid = record {
                is_add_semigroup = record {
                  is_set = hedberg (equal_polynomials 𝓚);
                  add_assoc = λ p q r. extensional 𝓚 _ _ (λ i. simp (coefficient_plus, Ring.add_assoc));
                };
                zero-add = zero_plus;
                add-zero = λ p. plus_comm p (zero_polynomial 𝓚) ∙ zero_plus p;
              };
              add_comm = plus_comm;
            };
            left_distrib = λ p q r. times_comm p (plus 𝓚 q r) ∙ plus_times q r p ∙ ap₂ (plus 𝓚) (times_comm q p) (times_comm r p);
            right_distrib = plus_times;
            zero-mul = zero_times;
            mul-zero = λ p. times_comm p (zero_polynomial 𝓚) ∙ zero_times p;
          };
          mul_assoc = times_assoc;
        };
        one-mul = one_times;
        mul-one = λ p. times_comm p (one_polynomial 𝓚) ∙ one_times p;
      };
      neg-add_cancel = λ p. extensional 𝓚 _ _ (λ i. simp (coefficient_plus, coefficient_negative, coefficient_zero, Ring.neg_add));
    };
    mul_comm = times_comm;
  }

  -- the ring of polynomials
  abbrev pub polynomial_ring : CommRing (Polynomial 𝓚)
  polynomial_ring = record {
    add = plus 𝓚;
    mul = times 𝓚;
    zero = zero_polynomial 𝓚;
    neg = negative 𝓚;
    one = one_polynomial 𝓚;
    is_comm_ring = polynomial_ring_laws;
  }

  -- the coefficients of a difference
  pub coefficient_minus : (p q : Polynomial 𝓚) (i : ℕ) → (minus polynomial_ring p q).coefficient i ≡ minus 𝓚.ring (p.coefficient i) (q.coefficient i)
  coefficient_minus p q i = coefficient_plus 𝓚 p (negative 𝓚 q) i ∙ ap (𝓚.ring.add (p.coefficient i)) (coefficient_negative 𝓚 q i)
