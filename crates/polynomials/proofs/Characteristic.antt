-- The characteristic of a field and of its polynomials. Assumes nothing.
use mathlib.Core.Path.{◌≡◌, sym, ap, ◌∙◌}
use mathlib.Core.Logic.{◌≢◌}
use Prim.Native.Nat.{ℕ, zero, suc, ◌≤◌, ◌<◌}
use native.Mathlib.Decide.{dec_le}
use native.Mathlib.Omega.{arith}
use Rattle.algebra.specs.Field.{Field}
use Rattle.algebra.proofs.Ring
use Rattle.polynomials.specs.Sequence.{multiple}
use Rattle.polynomials.specs.Polynomial.{Polynomial}
use Rattle.polynomials.specs.Perfect.{Characteristic, Perfect}
use Rattle.polynomials.proofs.Multiple.{multiple_one, multiple_product}
use Rattle.polynomials.proofs.Frobenius.{power_multiple}
use Rattle.polynomials.proofs.Equality.{extensional}
use Rattle.polynomials.proofs.Coefficients.{coefficient_zero, coefficient_plus}
use Rattle.polynomials.proofs.Ring.{polynomial_ring}
use Rattle.polynomials.proofs.Degree.{vanishes_zero, cancel_right}

module _ {K : Type 0} (𝓚 : Field K) (p : ℕ) where
  open 𝓚.ring use {add as ◌⊕◌, mul as ◌⊙◌, zero as 𝟘, one as 𝟙}

  infixl 65 ◌⊕◌
  infixl 70 ◌⊙◌
  -- n times a is a times n times 1
  multiple_of_one : (n : ℕ) (a : K) → multiple 𝓚.ring n a ≡ a ⊙ multiple 𝓚.ring n 𝟙
  multiple_of_one n a = ap (multiple 𝓚.ring n) (sym (Ring.mul-one 𝓚.ring a)) ∙ multiple_product 𝓚.ring n a 𝟙

  -- the characteristic of a field is the least number p, other than 0, with p · 1 = 0
  pub field_characteristic : 0 < p → multiple 𝓚.ring p 𝟙 ≡ 𝟘 → ((n : ℕ) → 0 < n → n < p → multiple 𝓚.ring n 𝟙 ≢ 𝟘) → Characteristic 𝓚.ring p
  field_characteristic positive vanishes least = record {
    positive = positive;
    vanishes = λ a. multiple_of_one p a ∙ ap (λ x. a ⊙ x) vanishes ∙ Ring.mul-zero 𝓚.ring a;
    least = λ n a h l e. cancel_right 𝓚 a 𝟘 (multiple 𝓚.ring n 𝟙) (least n h l) (sym (multiple_of_one n a) ∙ e ∙ sym (Ring.zero-mul 𝓚.ring _));
  }

  -- the coefficients of a multiple
  pub coefficient_multiple : (n : ℕ) (f : Polynomial 𝓚) (i : ℕ) → (multiple (polynomial_ring 𝓚) n f).coefficient i ≡ multiple 𝓚.ring n (f.coefficient i)
  unfolding multiple
  coefficient_multiple zero f i = coefficient_zero 𝓚 i
  coefficient_multiple (suc n) f i = coefficient_plus 𝓚 f (multiple (polynomial_ring 𝓚) n f) i ∙ ap (λ x. f.coefficient i ⊕ x) (coefficient_multiple n f i)

  module _ (c : Characteristic 𝓚.ring p) where
    -- a characteristic is no 1, since 1 is not 0
    pub two_or_more : 2 ≤ p
    two_or_more =
        elim (dec_le 2 p) [
          | yes h ↦ h
          | no h ↦
              let one : 1 ≡ p = omega (arith, c.positive) in
              absurd (𝓚.one_not_zero (sym (multiple_one 𝓚.ring 𝟙) ∙ ap (λ n. multiple 𝓚.ring n 𝟙) one ∙ c.vanishes 𝟙))
        ]

    -- the polynomials have the characteristic of the field
    pub polynomial_characteristic : Characteristic (polynomial_ring 𝓚) p
    polynomial_characteristic = record {
      positive = c.positive;
      vanishes = λ f. extensional 𝓚 _ _ (λ i. coefficient_multiple p f i ∙ c.vanishes (f.coefficient i) ∙ sym (coefficient_zero 𝓚 i));
      least = λ n f h l e.
          vanishes_zero 𝓚 f
          (λ i _. c.least n (f.coefficient i) h l (sym (coefficient_multiple n f i) ∙ ap (λ (g : Polynomial 𝓚). g.coefficient i) e ∙ coefficient_zero 𝓚 i));
    }

    -- a field whose elements are the multiples of 1 is perfect: each is its own p-th power
    pub multiples_perfect : ((a : K) → (n : ℕ) × (multiple 𝓚.ring n 𝟙 ≡ a)) → Perfect 𝓚
    multiples_perfect every = record {
      p = p;
      characteristic = c;
      root = λ a. let (n, e) = every a in (multiple 𝓚.ring n 𝟙, power_multiple 𝓚.ring p c n ∙ e);
    }
