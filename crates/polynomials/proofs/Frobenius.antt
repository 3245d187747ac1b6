-- In characteristic p the p-th power of a sum is the sum of the p-th powers. Assumes nothing.
use mathlib.Core.Path.{◌≡◌, refl, sym, ap, ap₂, ◌∙◌}
use mathlib.Mathlib.Algebra.Ring.Defs.{CommRing}
use Prim.Native.Nat.{ℕ, zero, suc, ◌<◌}
use native.Mathlib.Nat.{not-suc-le-zero}
use native.Mathlib.Omega.{arith}
use Rattle.algebra.proofs.Ring
use Rattle.polynomials.specs.Sequence.{sum, multiple, multiple_zero}
use Rattle.polynomials.specs.Perfect.{power, Characteristic}
use Rattle.polynomials.proofs.Power.{power_one, power_zero}
use Rattle.polynomials.proofs.Multiple.{multiple_suc, multiple_one, multiple_sum, multiple_product}

module _ {R : Type 0} (𝓡 : CommRing R) where
  open 𝓡 use {add as ◌⊕◌, mul as ◌⊙◌, zero as 𝟘, one as 𝟙}

  infixl 65 ◌⊕◌
  infixl 70 ◌⊙◌
  -- a sum taken from the other end
  sum_last : (n : ℕ) (f : ℕ → R) → sum 𝓡 (suc n) f ≡ sum 𝓡 n f ⊕ f n
  unfolding sum
  sum_last zero f = Ring.add_comm 𝓡 (f 0) 𝟘
  sum_last (suc n) f = ap (λ x. f 0 ⊕ x) (sum_last n (λ i. f (suc i))) ∙ sym (Ring.add_assoc 𝓡 _ _ _)

  -- a sum of zeros
  sum_zero : (n : ℕ) (f : ℕ → R) → ((i : ℕ) → i < n → f i ≡ 𝟘) → sum 𝓡 n f ≡ 𝟘
  unfolding sum
  sum_zero zero f h = refl
  sum_zero (suc n) f h = ap₂ ◌⊕◌ (h 0 (omega arith)) (sum_zero n (λ i. f (suc i)) (λ i k. h (suc i) (omega arith))) ∙ Ring.add-zero 𝓡 𝟘

  -- a sum of sums of multiples
  sum_linear : (n : ℕ) (c d : R) (f g : ℕ → R) → sum 𝓡 n (λ i. c ⊙ f i ⊕ d ⊙ g i) ≡ c ⊙ sum 𝓡 n f ⊕ d ⊙ sum 𝓡 n g
  unfolding sum
  sum_linear zero c d f g = sym (ap₂ ◌⊕◌ (Ring.mul-zero 𝓡 c) (Ring.mul-zero 𝓡 d) ∙ Ring.add-zero 𝓡 𝟘)
  sum_linear (suc n) c d f g = ap (λ x. c ⊙ f 0 ⊕ d ⊙ g 0 ⊕ x) (sum_linear n c d (λ i. f (suc i)) (λ i. g (suc i))) ∙ simp (Ring.mul_add 𝓡, Ring.add_assoc 𝓡, Ring.add_left_comm 𝓡)

  module _ (a b : R) where
    -- the terms of (a + b)^n: the k-th holds a^k
    term : ℕ → ℕ → R
    term zero zero = 𝟙
    term zero (suc k) = 𝟘
    term (suc n) zero = b ⊙ term n zero
    term (suc n) (suc k) = a ⊙ term n k ⊕ b ⊙ term n (suc k)

    term_none : (n k : ℕ) → n < k → term n k ≡ 𝟘
    unfolding term
    term_none n zero h = absurd (not-suc-le-zero h)
    term_none zero (suc k) h = refl
    term_none (suc n) (suc k) h =
        ap₂ (λ x y. a ⊙ x ⊕ b ⊙ y) (term_none n k (omega arith)) (term_none n (suc k) (omega arith))
        ∙ ap₂ ◌⊕◌ (Ring.mul-zero 𝓡 a) (Ring.mul-zero 𝓡 b) ∙ Ring.add-zero 𝓡 𝟘

    term_first : (n : ℕ) → term n 0 ≡ power 𝓡 b n
    unfolding term power
    term_first zero = refl
    term_first (suc n) = ap (λ x. b ⊙ x) (term_first n)

    term_last : (n : ℕ) → term n n ≡ power 𝓡 a n
    unfolding term power
    term_last zero = refl
    term_last (suc n) = ap₂ (λ x y. a ⊙ x ⊕ b ⊙ y) (term_last n) (term_none n (suc n) (omega arith)) ∙ ap (λ x. a ⊙ power 𝓡 a n ⊕ x) (Ring.mul-zero 𝓡 b) ∙ Ring.add-zero 𝓡 _

    -- the terms add up: one more factor a + b multiplies the sum by it
    term_sum : (N n : ℕ) → sum 𝓡 (suc N) (term (suc n)) ≡ a ⊙ sum 𝓡 N (term n) ⊕ b ⊙ sum 𝓡 (suc N) (term n)
    unfolding sum term
    term_sum N n =
        ap (λ x. b ⊙ term n 0 ⊕ x) (sum_linear N a b (term n) (λ i. term n (suc i)))
        ∙ Ring.add_left_comm 𝓡 _ _ _
        ∙ ap (λ x. a ⊙ sum 𝓡 N (term n) ⊕ x) (sym (Ring.mul_add 𝓡 b (term n 0) (sum 𝓡 N (λ i. term n (suc i)))))

    -- the binomial theorem
    binomial : (n : ℕ) → power 𝓡 (a ⊕ b) n ≡ sum 𝓡 (suc n) (term n)
    unfolding power sum term
    binomial zero = sym (Ring.add-zero 𝓡 𝟙)
    binomial (suc n) =
        ap (λ x. (a ⊕ b) ⊙ x) (binomial n)
        ∙ Ring.add_mul 𝓡 a b (sum 𝓡 (suc n) (term n))
        ∙ ap (λ x. a ⊙ sum 𝓡 (suc n) (term n) ⊕ b ⊙ x) (sym (sum_last (suc n) (term n) ∙ ap (λ x. sum 𝓡 (suc n) (term n) ⊕ x) (term_none n (suc n) (omega arith)) ∙ Ring.add-zero 𝓡 _))
        ∙ sym (term_sum (suc n) n)

    module _ (k n : ℕ) (x y t : R) where
      step : multiple 𝓡 (suc k) (a ⊙ x ⊕ b ⊙ y) ≡ multiple 𝓡 (suc n) (a ⊙ x) → multiple 𝓡 (suc (suc k)) t ≡ multiple 𝓡 (suc n) (a ⊙ y)
          → multiple 𝓡 (suc (suc k)) (a ⊙ (a ⊙ x ⊕ b ⊙ y) ⊕ b ⊙ t) ≡ multiple 𝓡 (suc (suc n)) (a ⊙ (a ⊙ x ⊕ b ⊙ y))
      step h₁ h₂ =
          multiple_sum 𝓡 (suc (suc k)) (a ⊙ T) (b ⊙ t)
          ∙ ap₂ ◌⊕◌ (multiple_suc 𝓡 (suc k) (a ⊙ T) ∙ ap (λ z. a ⊙ T ⊕ z) (multiple_product 𝓡 (suc k) a T ∙ ap (λ z. a ⊙ z) h₁))
          (multiple_product 𝓡 (suc (suc k)) b t ∙ ap (λ z. b ⊙ z) (h₂ ∙ multiple_product 𝓡 (suc n) a y))
          ∙ Ring.add_assoc 𝓡 _ _ _
          ∙ ap (λ z. a ⊙ T ⊕ z)
          (ap (λ z. a ⊙ multiple 𝓡 (suc n) (a ⊙ x) ⊕ z) (Ring.mul_left_comm 𝓡 b a _ ∙ ap (λ z. a ⊙ z) (sym (multiple_product 𝓡 (suc n) b y)))
          ∙ sym (Ring.mul_add 𝓡 a _ _) ∙ ap (λ z. a ⊙ z) (sym (multiple_sum 𝓡 (suc n) (a ⊙ x) (b ⊙ y))) ∙ sym (multiple_product 𝓡 (suc n) a T))
          ∙ sym (multiple_suc 𝓡 (suc n) (a ⊙ T))
        where
          T : R
          T = a ⊙ x ⊕ b ⊙ y

    -- k + 1 times the term at k + 1 is n + 1 times the term at k of one power less, times a
    term_multiple : (n k : ℕ) → multiple 𝓡 (suc k) (term (suc n) (suc k)) ≡ multiple 𝓡 (suc n) (a ⊙ term n k)
    unfolding term
    term_multiple zero zero = ap (multiple 𝓡 1) (ap (λ x. a ⊙ 𝟙 ⊕ x) (Ring.mul-zero 𝓡 b) ∙ Ring.add-zero 𝓡 (a ⊙ 𝟙))
    term_multiple zero (suc k) =
        ap (multiple 𝓡 (suc (suc k))) (ap₂ ◌⊕◌ (Ring.mul-zero 𝓡 a) (Ring.mul-zero 𝓡 b) ∙ Ring.add-zero 𝓡 𝟘) ∙ multiple_zero 𝓡 (suc (suc k))
        ∙ sym (ap (multiple 𝓡 1) (Ring.mul-zero 𝓡 a) ∙ multiple_zero 𝓡 1)
    term_multiple (suc n) zero =
        multiple_one 𝓡 _
        ∙ ap (λ z. a ⊙ (b ⊙ term n 0) ⊕ b ⊙ z) (sym (multiple_one 𝓡 _) ∙ term_multiple n zero)
        ∙ ap (λ z. a ⊙ (b ⊙ term n 0) ⊕ z) (sym (multiple_product 𝓡 (suc n) b (a ⊙ term n 0)) ∙ ap (multiple 𝓡 (suc n)) (Ring.mul_left_comm 𝓡 b a (term n 0)))
        ∙ sym (multiple_suc 𝓡 (suc n) (a ⊙ (b ⊙ term n 0)))
    term_multiple (suc n) (suc k) = step k n (term n k) (term n (suc k)) (term (suc n) (suc (suc k))) (term_multiple n k) (term_multiple n (suc k))

  -- a sum of which only the first and the last element are other than 0
  sum_ends : (n : ℕ) (f : ℕ → R) → ((k : ℕ) → 0 < k → k < suc n → f k ≡ 𝟘) → sum 𝓡 (suc (suc n)) f ≡ f 0 ⊕ f (suc n)
  unfolding sum
  sum_ends n f h =
      ap (λ x. f 0 ⊕ x)
      (sum_last n (λ i. f (suc i)) ∙ ap (λ x. x ⊕ f (suc n)) (sum_zero n (λ i. f (suc i)) (λ i k. h (suc i) (omega arith) (omega arith))) ∙ Ring.zero-add 𝓡 (f (suc n)))

  module _ (p : ℕ) (c : Characteristic 𝓡 p) where
    -- the p-th power of a sum is the sum of the p-th powers
    pub power_sum : (a b : R) → power 𝓡 (a ⊕ b) p ≡ power 𝓡 a p ⊕ power 𝓡 b p
    power_sum a b = binomial a b p ∙ ends p c.positive (λ k h l. c.least k (term a b p k) h l (middle p k h c.vanishes))
      where
        middle : (p k : ℕ) → 0 < k → ((x : R) → multiple 𝓡 p x ≡ 𝟘) → multiple 𝓡 k (term a b p k) ≡ 𝟘
        middle p zero h v = absurd (not-suc-le-zero h)
        middle zero (suc k) h v = ap (multiple 𝓡 (suc k)) (term_none a b 0 (suc k) h) ∙ multiple_zero 𝓡 (suc k)
        middle (suc n) (suc k) h v = term_multiple a b n k ∙ v (a ⊙ term a b n k)

        ends : (p : ℕ) → 0 < p → ((k : ℕ) → 0 < k → k < p → term a b p k ≡ 𝟘) → sum 𝓡 (suc p) (term a b p) ≡ power 𝓡 a p ⊕ power 𝓡 b p
        ends zero h z = absurd (not-suc-le-zero h)
        ends (suc n) h z = sum_ends n (term a b (suc n)) z ∙ ap₂ ◌⊕◌ (term_first a b (suc n)) (term_last a b (suc n)) ∙ Ring.add_comm 𝓡 _ _

    -- the multiples of 1 are their own p-th powers
    pub power_multiple : (n : ℕ) → power 𝓡 (multiple 𝓡 n 𝟙) p ≡ multiple 𝓡 n 𝟙
    unfolding multiple
    power_multiple zero = power_zero 𝓡 p c.positive
    power_multiple (suc n) = power_sum 𝟙 (multiple 𝓡 n 𝟙) ∙ ap₂ ◌⊕◌ (power_one 𝓡 p) (power_multiple n)
