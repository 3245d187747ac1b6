-- Products and powers of monomials, and polynomials taken apart at a power of x. Assumes nothing.
use mathlib.Core.Path.{◌≡◌, sym, ap, ap₂, ◌∙◌, subst}
use Prim.Native.Nat.{ℕ, zero, suc, ◌+◌, ◌*◌, ◌-◌, ◌≤◌, ◌<◌}
use native.Mathlib.Nat.{zero-mul, suc-mul, add_comm, add-sub_of_le}
use native.Mathlib.Numerals.{one-add}
use native.Mathlib.Decide.{dec_le, ℕ_discrete}
use native.Mathlib.Omega.{arith}
use Rattle.algebra.specs.Field.{Field}
use Rattle.algebra.proofs.Ring
use Rattle.polynomials.specs.Polynomial.{Polynomial, one_polynomial, monomial, plus, times}
use Rattle.polynomials.specs.Perfect.{power}
use Rattle.polynomials.proofs.Equality.{extensional}
use Rattle.polynomials.proofs.Coefficients.{coefficient_plus, coefficient_shift, coefficient_shift_below, coefficient_monomial, coefficient_monomial_other}
use Rattle.polynomials.proofs.Ring.{polynomial_ring}

module _ {K : Type 0} (𝓚 : Field K) where
  open 𝓚.ring use {add as ◌⊕◌, mul as ◌⊙◌, zero as 𝟘, one as 𝟙}

  infixl 65 ◌⊕◌
  infixl 70 ◌⊙◌
  -- the product of two monomials
  pub monomial_times : (a b : K) (i j : ℕ) → times 𝓚 (monomial 𝓚 a i) (monomial 𝓚 b j) ≡ monomial 𝓚 (a ⊙ b) (i + j)
  monomial_times a b i j = extensional 𝓚 _ _ (λ n. elim (dec_le i n) [ yes h ↦ subst Same (add-sub_of_le h) (from (n - i)) | no h ↦ below n (omega arith) ])
    where
      Same : ℕ → Type 0
      Same n = (times 𝓚 (monomial 𝓚 a i) (monomial 𝓚 b j)).coefficient n ≡ (monomial 𝓚 (a ⊙ b) (i + j)).coefficient n

      below : (n : ℕ) → suc n ≤ i → Same n
      below n h = coefficient_shift_below 𝓚 a i (monomial 𝓚 b j) n h ∙ sym (coefficient_monomial_other 𝓚 (a ⊙ b) (i + j) n (omega arith))

      from : (k : ℕ) → Same (i + k)
      from k =
          elim (ℕ_discrete k j) [
            | yes e ↦ subst (λ k. Same (i + k)) (sym e)
                (coefficient_shift 𝓚 a i (monomial 𝓚 b j) j ∙ ap (λ x. a ⊙ x) (coefficient_monomial 𝓚 b j) ∙ sym (coefficient_monomial 𝓚 (a ⊙ b) (i + j)))
            | no h ↦
                coefficient_shift 𝓚 a i (monomial 𝓚 b j) k ∙ ap (λ x. a ⊙ x) (coefficient_monomial_other 𝓚 b j k h) ∙ Ring.mul-zero 𝓚.ring a
                ∙ sym (coefficient_monomial_other 𝓚 (a ⊙ b) (i + j) (i + k) (omega arith))
          ]

  -- the powers of a monomial
  pub monomial_power : (a : K) (i n : ℕ) → power (polynomial_ring 𝓚) (monomial 𝓚 a i) n ≡ monomial 𝓚 (power 𝓚.ring a n) (n * i)
  unfolding power one_polynomial
  monomial_power a i zero = ap (monomial 𝓚 𝓚.ring.one) (sym (zero-mul i))
  monomial_power a i (suc n) =
      ap (times 𝓚 (monomial 𝓚 a i)) (monomial_power a i n)
      ∙ monomial_times a (power 𝓚.ring a n) i (n * i)
      ∙ ap (monomial 𝓚 (a ⊙ power 𝓚.ring a n)) (add_comm i (n * i) ∙ sym (suc-mul n i))

  -- where the coefficients between are 0, f is its constant coefficient and x^n times the later ones
  pub split : (n : ℕ) (f g : Polynomial 𝓚) → 0 < n → ((i : ℕ) → suc i < n → f.coefficient (suc i) ≡ 𝟘)
      → ((i : ℕ) → g.coefficient i ≡ f.coefficient (n + i))
      → plus 𝓚 (monomial 𝓚 (f.coefficient 0) 0) (times 𝓚 (monomial 𝓚 𝟙 n) g) ≡ f
  split n f g positive between rest =
      extensional 𝓚 _ _ (λ i. coefficient_plus 𝓚 (monomial 𝓚 (f.coefficient 0) 0) (times 𝓚 (monomial 𝓚 𝟙 n) g) i ∙ at i)
    where
      at : (i : ℕ) → (monomial 𝓚 (f.coefficient 0) 0).coefficient i ⊕ (times 𝓚 (monomial 𝓚 𝟙 n) g).coefficient i ≡ f.coefficient i
      at zero = ap₂ ◌⊕◌ (coefficient_monomial 𝓚 (f.coefficient 0) 0) (coefficient_shift_below 𝓚 𝟙 n g 0 positive) ∙ Ring.add-zero 𝓚.ring _
      at (suc i) =
          ap (λ x. x ⊕ (times 𝓚 (monomial 𝓚 𝟙 n) g).coefficient (suc i)) (coefficient_monomial_other 𝓚 (f.coefficient 0) 0 (suc i) (omega arith))
          ∙ Ring.zero-add 𝓚.ring _
          ∙ elim (dec_le n (suc i)) [
            | yes h ↦ subst (λ k. (times 𝓚 (monomial 𝓚 𝟙 n) g).coefficient k ≡ f.coefficient k) (add-sub_of_le h)
                (coefficient_shift 𝓚 𝟙 n g (suc i - n) ∙ Ring.one-mul 𝓚.ring _ ∙ rest (suc i - n))
            | no h ↦ coefficient_shift_below 𝓚 𝟙 n g (suc i) (omega arith) ∙ sym (between i (omega arith))
          ]

  -- a polynomial is its constant coefficient and x times the later ones
  pub split_first : (f g : Polynomial 𝓚) → ((i : ℕ) → g.coefficient i ≡ f.coefficient (suc i))
      → plus 𝓚 (monomial 𝓚 (f.coefficient 0) 0) (times 𝓚 (monomial 𝓚 𝟙 1) g) ≡ f
  split_first f g later = split 1 f g (omega arith) (λ i h. absurd (omega arith)) (λ i. later i ∙ ap f.coefficient (sym (one-add i)))
