-- Degrees and leading coefficients: those of a product of non-zero polynomials add up and multiply. Assumes nothing.
use mathlib.Core.Path.{◌≡◌, refl, sym, ap, ◌∙◌}
use mathlib.Core.Logic.{◌≢◌}
use Prim.Native.Nat.{ℕ, zero, suc, pred, ◌<◌, ◌+◌}
use native.Mathlib.Decide.{dec_le}
use native.Mathlib.Omega.{arith}
use Rattle.algebra.specs.Field.{Field}
use Rattle.algebra.proofs.Ring
use Rattle.polynomials.specs.Sequence.{Vanishes}
use Rattle.polynomials.specs.Polynomial.{Polynomial, zero_polynomial, one_polynomial, monomial, times, degree, leading}
use Rattle.polynomials.proofs.Convolution.{convolution_last}
use Rattle.polynomials.proofs.Equality.{extensional, bound_least}
use Rattle.polynomials.proofs.Coefficients.{coefficient_zero, coefficient_times, times_vanishes, coefficient_monomial, coefficient_monomial_other}

module _ {K : Type 0} (𝓚 : Field K) where
  open 𝓚.ring use {mul as ◌⊙◌, zero as 𝟘, one as 𝟙}

  infixl 70 ◌⊙◌
  -- in a field, what is not 0 may be cancelled
  pub cancel_right : (a b c : K) → c ≢ 𝟘 → a ⊙ c ≡ b ⊙ c → a ≡ b
  cancel_right a b c h e = sym (undo a) ∙ ap (λ x. x ⊙ d) e ∙ undo b
    where
      d : K
      d = (𝓚.inverse c h).0

      undo : (x : K) → x ⊙ c ⊙ d ≡ x
      undo x = Ring.mul_assoc 𝓚.ring x c d ∙ ap (λ y. x ⊙ y) (𝓚.inverse c h).1 ∙ Ring.mul-one 𝓚.ring x

  -- and no product of non-zero elements is 0
  pub product_not_zero : (a b : K) → a ≢ 𝟘 → b ≢ 𝟘 → a ⊙ b ≢ 𝟘
  product_not_zero a b ha hb e = ha (cancel_right a 𝟘 b hb (e ∙ sym (Ring.zero-mul 𝓚.ring b)))

  degree_bound : (p : Polynomial 𝓚) → degree 𝓚 p ≡ pred p.bound
  unfolding degree
  degree_bound p = refl

  -- all coefficients above the degree are 0
  pub above_degree : (p : Polynomial 𝓚) → Vanishes 𝓚.ring p.coefficient (suc (degree 𝓚 p))
  above_degree p i h = p.beyond i (omega (arith, degree_bound p))

  -- a polynomial all of whose coefficients are 0 is 0
  pub vanishes_zero : (p : Polynomial 𝓚) → Vanishes 𝓚.ring p.coefficient 0 → p ≡ zero_polynomial 𝓚
  vanishes_zero p v = extensional 𝓚 _ _ (λ i. v i (omega arith) ∙ sym (coefficient_zero 𝓚 i))

  -- the bound of a non-zero polynomial is one more than its degree
  pub bound_degree : (p : Polynomial 𝓚) → p ≢ zero_polynomial 𝓚 → p.bound ≡ suc (degree 𝓚 p)
  unfolding degree
  bound_degree p h = go p.bound refl
    where
      go : (b : ℕ) → p.bound ≡ b → b ≡ suc (pred b)
      go zero e = absurd (h (vanishes_zero p (λ i _. p.beyond i (omega arith))))
      go (suc n) e = omega arith

  -- the leading coefficient of a non-zero polynomial is not 0
  pub leading_not_zero : (p : Polynomial 𝓚) → p ≢ zero_polynomial 𝓚 → leading 𝓚 p ≢ 𝟘
  unfolding leading
  leading_not_zero p h = p.last (degree 𝓚 p) (sym (bound_degree p h))

  -- a polynomial with a coefficient other than 0 is not 0
  pub coefficient_not_zero : (p : Polynomial 𝓚) (n : ℕ) → p.coefficient n ≢ 𝟘 → p ≢ zero_polynomial 𝓚
  coefficient_not_zero p n h e = h (ap (λ (q : Polynomial 𝓚). q.coefficient n) e ∙ coefficient_zero 𝓚 n)

  -- the degree is the highest place of a coefficient other than 0
  pub degree_unique : (p : Polynomial 𝓚) (n : ℕ) → Vanishes 𝓚.ring p.coefficient (suc n) → p.coefficient n ≢ 𝟘 → degree 𝓚 p ≡ n
  degree_unique p n v h =
      elim (dec_le p.bound n) [
        | yes k ↦ absurd (h (p.beyond n k))
        | no k ↦ omega (arith, bound_least 𝓚 p (suc n) v, degree_bound p)
      ]

  -- a non-zero polynomial whose coefficients from the n-th on are 0 has degree below n
  pub degree_below : (p : Polynomial 𝓚) (n : ℕ) → p ≢ zero_polynomial 𝓚 → Vanishes 𝓚.ring p.coefficient n → degree 𝓚 p < n
  degree_below p n h v = omega (arith, bound_least 𝓚 p n v, bound_degree p h)

  -- the product's coefficient at the sum of the degrees
  pub coefficient_top : (p q : Polynomial 𝓚) → (times 𝓚 p q).coefficient (degree 𝓚 p + degree 𝓚 q) ≡ leading 𝓚 p ⊙ leading 𝓚 q
  unfolding leading
  coefficient_top p q =
      coefficient_times 𝓚 p q (degree 𝓚 p + degree 𝓚 q)
      ∙ convolution_last 𝓚.ring (degree 𝓚 p) (degree 𝓚 q) p.coefficient q.coefficient (above_degree p) (above_degree q)

  -- and there is none above
  pub coefficient_above : (p q : Polynomial 𝓚) → Vanishes 𝓚.ring (times 𝓚 p q).coefficient (suc (degree 𝓚 p + degree 𝓚 q))
  coefficient_above p q i h = times_vanishes 𝓚 (suc (degree 𝓚 p)) (suc (degree 𝓚 q)) p q (above_degree p) (above_degree q) i (omega arith)

  module _ (p q : Polynomial 𝓚) (hp : p ≢ zero_polynomial 𝓚) (hq : q ≢ zero_polynomial 𝓚) where
    top_not_zero : (times 𝓚 p q).coefficient (degree 𝓚 p + degree 𝓚 q) ≢ 𝟘
    top_not_zero e = product_not_zero (leading 𝓚 p) (leading 𝓚 q) (leading_not_zero p hp) (leading_not_zero q hq) (sym (coefficient_top p q) ∙ e)

    -- no product of non-zero polynomials is 0
    pub times_not_zero : times 𝓚 p q ≢ zero_polynomial 𝓚
    times_not_zero = coefficient_not_zero (times 𝓚 p q) (degree 𝓚 p + degree 𝓚 q) top_not_zero

    -- the degree of a product is the sum of the degrees
    pub degree_times : degree 𝓚 (times 𝓚 p q) ≡ degree 𝓚 p + degree 𝓚 q
    degree_times = degree_unique (times 𝓚 p q) (degree 𝓚 p + degree 𝓚 q) (coefficient_above p q) top_not_zero

    -- the leading coefficient of a product is the product of the leading coefficients
    pub leading_times : leading 𝓚 (times 𝓚 p q) ≡ leading 𝓚 p ⊙ leading 𝓚 q
    unfolding leading
    leading_times = ap (times 𝓚 p q).coefficient degree_times ∙ coefficient_top p q

  module _ (c : K) (k : ℕ) where
    -- c x^k has no coefficient above k
    pub monomial_above : Vanishes 𝓚.ring (monomial 𝓚 c k).coefficient (suc k)
    monomial_above i h = coefficient_monomial_other 𝓚 c k i (omega arith)

    module _ (h : c ≢ 𝟘) where
      -- it is not 0 if c is not,
      pub monomial_not_zero : monomial 𝓚 c k ≢ zero_polynomial 𝓚
      monomial_not_zero = coefficient_not_zero (monomial 𝓚 c k) k (λ e. h (sym (coefficient_monomial 𝓚 c k) ∙ e))

      -- its degree is k,
      pub degree_monomial : degree 𝓚 (monomial 𝓚 c k) ≡ k
      degree_monomial = degree_unique (monomial 𝓚 c k) k monomial_above (λ e. h (sym (coefficient_monomial 𝓚 c k) ∙ e))

      -- and its leading coefficient is c
      pub leading_monomial : leading 𝓚 (monomial 𝓚 c k) ≡ c
      unfolding leading
      leading_monomial = ap (monomial 𝓚 c k).coefficient degree_monomial ∙ coefficient_monomial 𝓚 c k

  -- 1 is not 0,
  pub one_not_zero_polynomial : one_polynomial 𝓚 ≢ zero_polynomial 𝓚
  unfolding one_polynomial
  one_not_zero_polynomial = monomial_not_zero 𝟙 0 𝓚.one_not_zero

  -- has degree 0,
  pub degree_one : degree 𝓚 (one_polynomial 𝓚) ≡ 0
  unfolding one_polynomial
  degree_one = degree_monomial 𝟙 0 𝓚.one_not_zero

  -- and is monic
  pub leading_one : leading 𝓚 (one_polynomial 𝓚) ≡ 𝟙
  unfolding one_polynomial
  leading_one = leading_monomial 𝟙 0 𝓚.one_not_zero
