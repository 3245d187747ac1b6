-- The coefficients of what the operations on polynomials give. Assumes nothing.
use mathlib.Core.Path.{◌≡◌, refl, sym, ap, ◌∙◌}
use mathlib.Core.Logic.{◌≢◌, if_pos, if_neg}
use mathlib.Core.List.{List}
use Prim.Native.Nat.{ℕ, suc, ◌≤◌, ◌<◌, ◌+◌, ◌-◌}
use lib.ListN.{get_or}
use native.Mathlib.Decide.{ℕ_discrete}
use native.Mathlib.Nat.{zero-add}
use Rattle.algebra.specs.Field.{Field}
use Rattle.polynomials.specs.Sequence.{convolution, convolution_vanishes, sum, multiple, Vanishes}
use Rattle.polynomials.specs.Polynomial.{Polynomial, polynomial, from_list, monomial, zero_polynomial, plus, negative, times, derivative}
use Rattle.polynomials.proofs.Convolution.{convolution_single, convolution_single_below}

module _ {K : Type 0} (𝓚 : Field K) where
  open 𝓚.ring use {add as ◌⊕◌, mul as ◌⊙◌, zero as 𝟘, neg as ⊖}

  infixl 65 ◌⊕◌
  infixl 70 ◌⊙◌
  -- a polynomial made of coefficients has these
  pub coefficient_polynomial : (a : ℕ → K) (n : ℕ) (v : Vanishes 𝓚.ring a n) (i : ℕ) → (polynomial 𝓚 a n v).coefficient i ≡ a i
  unfolding polynomial
  coefficient_polynomial a n v i = refl

  -- one made of a list has those of the list
  pub coefficient_from_list : (cs : List K) (i : ℕ) → (from_list 𝓚 cs).coefficient i ≡ get_or cs i 𝟘
  unfolding from_list polynomial
  coefficient_from_list cs i = refl

  -- 0 has none
  pub coefficient_zero : (i : ℕ) → (zero_polynomial 𝓚).coefficient i ≡ 𝟘
  unfolding zero_polynomial polynomial
  coefficient_zero i = refl

  -- those of a sum are the sums
  pub coefficient_plus : (p q : Polynomial 𝓚) (i : ℕ) → (plus 𝓚 p q).coefficient i ≡ p.coefficient i ⊕ q.coefficient i
  unfolding plus polynomial
  coefficient_plus p q i = refl

  -- those of a negative are the negatives
  pub coefficient_negative : (p : Polynomial 𝓚) (i : ℕ) → (negative 𝓚 p).coefficient i ≡ ⊖ (p.coefficient i)
  unfolding negative polynomial
  coefficient_negative p i = refl

  -- those of a product are the product of the two sequences
  pub coefficient_times : (p q : Polynomial 𝓚) (n : ℕ) → (times 𝓚 p q).coefficient n ≡ convolution 𝓚.ring p.coefficient q.coefficient n
  unfolding times polynomial
  coefficient_times p q n = refl

  -- the same as a sum: p 0 · q n + p 1 · q (n − 1) + .. + p n · q 0
  pub coefficient_times_sum : (p q : Polynomial 𝓚) (n : ℕ) → (times 𝓚 p q).coefficient n ≡ sum 𝓚.ring (suc n) (λ i. p.coefficient i ⊙ q.coefficient (n - i))
  unfolding times polynomial convolution
  coefficient_times_sum p q n = refl

  -- a product of m coefficients by n has fewer than m + n
  pub times_vanishes : (m n : ℕ) (p q : Polynomial 𝓚) → Vanishes 𝓚.ring p.coefficient m → Vanishes 𝓚.ring q.coefficient n
      → (i : ℕ) → m + n ≤ suc i → (times 𝓚 p q).coefficient i ≡ 𝟘
  unfolding times polynomial
  times_vanishes m n p q = convolution_vanishes 𝓚.ring m n p.coefficient q.coefficient

  -- c x^k has c at k
  pub coefficient_monomial : (c : K) (k : ℕ) → (monomial 𝓚 c k).coefficient k ≡ c
  unfolding monomial polynomial
  coefficient_monomial c k = if_pos (ℕ_discrete k k) refl c 𝟘

  -- and nothing elsewhere
  pub coefficient_monomial_other : (c : K) (k i : ℕ) → i ≢ k → (monomial 𝓚 c k).coefficient i ≡ 𝟘
  unfolding monomial polynomial
  coefficient_monomial_other c k i h = if_neg (ℕ_discrete i k) h c 𝟘

  -- that of the derivative at x^i is i + 1 times the one at x^(i + 1)
  pub coefficient_derivative : (p : Polynomial 𝓚) (i : ℕ) → (derivative 𝓚 p).coefficient i ≡ multiple 𝓚.ring (suc i) (p.coefficient (suc i))
  unfolding derivative polynomial
  coefficient_derivative p i = refl

  -- c x^k times p has the coefficients of p times c, moved up by k,
  pub coefficient_shift : (c : K) (k : ℕ) (p : Polynomial 𝓚) (n : ℕ) → (times 𝓚 (monomial 𝓚 c k) p).coefficient (k + n) ≡ c ⊙ p.coefficient n
  coefficient_shift c k p n =
      coefficient_times (monomial 𝓚 c k) p (k + n)
      ∙ convolution_single 𝓚.ring k (monomial 𝓚 c k).coefficient p.coefficient (coefficient_monomial_other c k) n
      ∙ ap (λ x. x ⊙ p.coefficient n) (coefficient_monomial c k)

  -- and none below
  pub coefficient_shift_below : (c : K) (k : ℕ) (p : Polynomial 𝓚) (n : ℕ) → n < k → (times 𝓚 (monomial 𝓚 c k) p).coefficient n ≡ 𝟘
  coefficient_shift_below c k p n h =
      coefficient_times (monomial 𝓚 c k) p n
      ∙ convolution_single_below 𝓚.ring k (monomial 𝓚 c k).coefficient p.coefficient (coefficient_monomial_other c k) n h

  -- a constant times p has the coefficients of p times that constant
  pub coefficient_scale : (c : K) (p : Polynomial 𝓚) (i : ℕ) → (times 𝓚 (monomial 𝓚 c 0) p).coefficient i ≡ c ⊙ p.coefficient i
  coefficient_scale c p i = ap (times 𝓚 (monomial 𝓚 c 0) p).coefficient (sym (zero-add i)) ∙ coefficient_shift c 0 p i
