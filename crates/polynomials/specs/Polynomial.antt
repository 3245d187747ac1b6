-- Polynomials over a field, in one variable x. Assumes nothing.
use Rattle.std.specs.Prelude.{◌≡◌, refl, ◌≢◌, Bool, true, false, List, length, get_or}
use Rattle.std.proofs.Common.{sym, ap, ap₂, ◌∙◌, suc-ne-zero, eq-or-lt_of_le, arith}
use Rattle.std.proofs.Math.Path.{subst}
use Rattle.std.proofs.Math.Logic.{ite, if_neg, inl, inr}
use Rattle.std.proofs.Math.ListN.{get_or-eq_default}
use Prim.Native.Nat.{ℕ, zero, suc, ◌+◌, pred, max}
use Rattle.std.proofs.Math.Nat.{suc_inj}
use Rattle.std.proofs.Math.Decide.{ℕ_discrete}
use Rattle.algebra.specs.Field.{Field}
use Rattle.algebra.proofs.Ring.{add-zero, neg_zero}
use Rattle.polynomials.specs.Sequence.{convolution, convolution_vanishes, multiple, multiple_zero, Vanishes}

module _ {K : Type 0} (𝓚 : Field K) where
  open 𝓚.ring use {add as ◌⊕◌, zero as 𝟘, one as 𝟙, neg as ⊖}

  infixl 65 ◌⊕◌
  -- A polynomial is its coefficients, that of x^i for each i. From its bound on they are 0, and the last one before
  -- the bound is not 0.
  pub record Polynomial : Type 0 where
    pub coefficient : ℕ → K
    pub bound : ℕ
    pub beyond : Vanishes 𝓚.ring coefficient bound
    pub last : (i : ℕ) → suc i ≡ bound → coefficient i ≢ 𝟘

  -- how many of the first n coefficients are left when the zeros at the end are dropped
  unfoldable pub trimmed : (ℕ → K) → ℕ → ℕ
  trimmed a zero = zero
  trimmed a (suc n) = ite (𝓚.equal (a n) 𝟘) (trimmed a n) (suc n)

  -- those that are dropped are 0
  pub trimmed_beyond : (a : ℕ → K) (n : ℕ) → Vanishes 𝓚.ring a n → Vanishes 𝓚.ring a (trimmed a n)
  unfolding trimmed
  trimmed_beyond a zero v = v
  trimmed_beyond a (suc n) v =
      elim (𝓚.equal (a n) 𝟘) as (λ d. Vanishes 𝓚.ring a (ite d (trimmed a n) (suc n))) [
        | yes e ↦ trimmed_beyond a n (λ i h. elim (eq-or-lt_of_le h) [ inl p ↦ subst (λ j. a j ≡ 𝟘) p e | inr k ↦ v i k ])
        | no _ ↦ v
      ]

  -- and the last one left is not
  pub trimmed_last : (a : ℕ → K) (n i : ℕ) → suc i ≡ trimmed a n → a i ≢ 𝟘
  unfolding trimmed
  trimmed_last a zero i = λ e. absurd (suc-ne-zero i e)
  trimmed_last a (suc n) i =
      elim (𝓚.equal (a n) 𝟘) as (λ d. suc i ≡ ite d (trimmed a n) (suc n) → a i ≢ 𝟘) [
        | yes _ ↦ trimmed_last a n i
        | no k ↦ λ e. subst (λ j. a j ≢ 𝟘) (sym (suc_inj e)) k
      ]

  -- the polynomial with the given coefficients, of which all from the n-th on are 0
  unfoldable pub polynomial : (a : ℕ → K) (n : ℕ) → Vanishes 𝓚.ring a n → Polynomial
  polynomial a n v = record { coefficient = a; bound = trimmed a n; beyond = trimmed_beyond a n v; last = trimmed_last a n }

  -- the polynomial with the coefficients of a list, that of x^0 first
  unfoldable pub from_list : List K → Polynomial
  from_list cs = polynomial (λ i. get_or cs i 𝟘) (length cs) (λ i h. get_or-eq_default cs 𝟘 h)

  -- c x^k
  unfoldable pub monomial : K → ℕ → Polynomial
  monomial c k = polynomial (λ i. ite (ℕ_discrete i k) c 𝟘) (suc k) (λ i h. if_neg (ℕ_discrete i k) (omega arith) c 𝟘)

  -- the polynomial 0
  unfoldable pub zero_polynomial : Polynomial
  zero_polynomial = polynomial (λ _. 𝟘) 0 (λ _ _. refl)

  -- the polynomial 1
  unfoldable pub one_polynomial : Polynomial
  one_polynomial = monomial 𝟙 0

  -- the sum, coefficient by coefficient
  unfoldable pub plus : Polynomial → Polynomial → Polynomial
  plus p q =
      polynomial (λ i. p.coefficient i ⊕ q.coefficient i) (max p.bound q.bound)
      (λ i h. ap₂ ◌⊕◌ (p.beyond i (omega arith)) (q.beyond i (omega arith)) ∙ add-zero 𝓚.ring 𝟘)

  -- the negative, coefficient by coefficient
  unfoldable pub negative : Polynomial → Polynomial
  negative p = polynomial (λ i. ⊖ (p.coefficient i)) p.bound (λ i h. ap ⊖ (p.beyond i h) ∙ neg_zero 𝓚.ring)

  -- the product: its coefficient of x^n is the sum of the products of the coefficients of x^i and x^j with i + j = n
  unfoldable pub times : Polynomial → Polynomial → Polynomial
  times p q =
      polynomial (convolution 𝓚.ring p.coefficient q.coefficient) (p.bound + q.bound)
      (λ i h. convolution_vanishes 𝓚.ring p.bound q.bound p.coefficient q.coefficient p.beyond q.beyond i (omega arith))

  -- the derivative: c x^(n + 1) becomes (n + 1) c x^n
  unfoldable pub derivative : Polynomial → Polynomial
  derivative p =
      polynomial (λ i. multiple 𝓚.ring (suc i) (p.coefficient (suc i))) p.bound
      (λ i h. ap (multiple 𝓚.ring (suc i)) (p.beyond (suc i) (omega arith)) ∙ multiple_zero 𝓚.ring (suc i))

  -- the highest power of x in a polynomial; 0 for the polynomial 0
  unfoldable pub degree : Polynomial → ℕ
  degree p = pred p.bound

  -- the coefficient of that power; 0 for the polynomial 0
  unfoldable pub leading : Polynomial → K
  leading p = p.coefficient (degree p)

  -- a polynomial is monic when its leading coefficient is 1
  abbrev pub monic : Polynomial → Bool
  monic p = ite (𝓚.equal (leading p) 𝟙) true false
