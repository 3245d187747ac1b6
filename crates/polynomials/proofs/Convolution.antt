-- The product of two sequences keeps the laws of a commutative ring. Assumes nothing.
use mathlib.Core.Path.{◌≡◌, sym, ap, ap₂, ◌∙◌, fun_ext}
use mathlib.Core.Logic.{◌≢◌}
use mathlib.Mathlib.Algebra.Ring.Defs.{CommRing}
use Prim.Native.Nat.{ℕ, zero, suc, ◌+◌, ◌<◌}
use native.Mathlib.Nat.{zero-add, suc-add, not-suc-le-zero}
use native.Mathlib.Omega.{arith}
use Rattle.algebra.proofs.Ring
use Rattle.polynomials.specs.Sequence.{convolution, convolution_first, convolution_rest, convolution_zero, Vanishes, rest}

-- the laws by which `simp` sorts the two sides of an equation in a commutative ring
pub ruleset ring = (Ring.mul_add, Ring.add_mul, Ring.add_assoc, Ring.add_comm, Ring.add_left_comm, Ring.mul_assoc, Ring.mul_comm, Ring.mul_left_comm)

module _ {R : Type 0} (𝓡 : CommRing R) where
  open 𝓡 use {add as ◌⊕◌, mul as ◌⊙◌, zero as 𝟘}

  infixl 65 ◌⊕◌
  infixl 70 ◌⊙◌
  -- the product with a sum on the left
  pub convolution_add : (a b c : ℕ → R) (n : ℕ) → convolution 𝓡 (λ i. a i ⊕ b i) c n ≡ convolution 𝓡 a c n ⊕ convolution 𝓡 b c n
  convolution_add a b c zero = simp (convolution_first 𝓡, Ring.add_mul 𝓡)
  convolution_add a b c (suc n) = simp (convolution_rest 𝓡, convolution_add (rest 𝓡 a) (rest 𝓡 b) c n, ring)

  -- with a constant multiple on the left
  pub convolution_scale : (c : R) (a b : ℕ → R) (n : ℕ) → convolution 𝓡 (λ i. c ⊙ a i) b n ≡ c ⊙ convolution 𝓡 a b n
  convolution_scale c a b zero = simp (convolution_first 𝓡, Ring.mul_assoc 𝓡)
  convolution_scale c a b (suc n) = simp (convolution_rest 𝓡, convolution_scale c (rest 𝓡 a) b n, ring)

  -- the later elements of a product, taken from the other end
  pub convolution_rest_right : (a b : ℕ → R) (n : ℕ) → convolution 𝓡 a b (suc n) ≡ convolution 𝓡 a (rest 𝓡 b) n ⊕ a (suc n) ⊙ b 0
  convolution_rest_right a b zero = convolution_rest 𝓡 a b 0 ∙ simp convolution_first
  convolution_rest_right a b (suc n) =
      convolution_rest 𝓡 a b (suc n)
      ∙ ap (λ x. a 0 ⊙ b (suc (suc n)) ⊕ x) (convolution_rest_right (rest 𝓡 a) b n)
      ∙ sym (Ring.add_assoc 𝓡 _ _ _)
      ∙ ap (λ x. x ⊕ a (suc (suc n)) ⊙ b 0) (sym (convolution_rest 𝓡 a (rest 𝓡 b) n))

  -- the product is commutative
  pub convolution_comm : (a b : ℕ → R) (n : ℕ) → convolution 𝓡 a b n ≡ convolution 𝓡 b a n
  convolution_comm a b zero = simp (convolution_first 𝓡, Ring.mul_comm 𝓡)
  convolution_comm a b (suc n) =
      convolution_rest 𝓡 a b n ∙ simp (convolution_rest_right b a n, convolution_comm (rest 𝓡 a) b n, ring)

  -- and associative
  pub convolution_assoc : (a b c : ℕ → R) (n : ℕ) → convolution 𝓡 (convolution 𝓡 a b) c n ≡ convolution 𝓡 a (convolution 𝓡 b c) n
  convolution_assoc a b c zero = simp (convolution_first 𝓡, Ring.mul_assoc 𝓡)
  convolution_assoc a b c (suc n) =
      convolution_rest 𝓡 (convolution 𝓡 a b) c n
      ∙ ap₂ (λ x f. x ⊙ c (suc n) ⊕ convolution 𝓡 f c n) (convolution_first 𝓡 a b) (fun_ext (convolution_rest 𝓡 a b))
      ∙ ap (λ x. a 0 ⊙ b 0 ⊙ c (suc n) ⊕ x) (convolution_add (λ i. a 0 ⊙ b (suc i)) (convolution 𝓡 (rest 𝓡 a) b) c n)
      ∙ simp (convolution_scale (a 0) (rest 𝓡 b) c n, convolution_assoc (rest 𝓡 a) b c n, convolution_rest 𝓡, ring)

  -- a constant on the left multiplies each element
  pub convolution_constant : (a b : ℕ → R) → Vanishes 𝓡 a 1 → (n : ℕ) → convolution 𝓡 a b n ≡ a 0 ⊙ b n
  convolution_constant a b v zero = convolution_first 𝓡 a b
  convolution_constant a b v (suc n) =
      convolution_rest 𝓡 a b n
      ∙ ap (λ x. a 0 ⊙ b (suc n) ⊕ x) (convolution_zero 𝓡 (rest 𝓡 a) b (λ i h. v (suc i) (omega arith)) n)
      ∙ Ring.add-zero 𝓡 (a 0 ⊙ b (suc n))

  -- a product with a sequence that is 0 but for its k-th element: a multiple, moved up by k
  pub convolution_single : (k : ℕ) (a b : ℕ → R) → ((i : ℕ) → i ≢ k → a i ≡ 𝟘) → (n : ℕ) → convolution 𝓡 a b (k + n) ≡ a k ⊙ b n
  convolution_single zero a b v n = ap (convolution 𝓡 a b) (zero-add n) ∙ convolution_constant a b (λ i h. v i (omega arith)) n
  convolution_single (suc k) a b v n =
      ap (convolution 𝓡 a b) (suc-add k n)
      ∙ convolution_rest 𝓡 a b (k + n)
      ∙ ap₂ (λ x y. x ⊙ b (suc (k + n)) ⊕ y) (v 0 (omega arith)) (convolution_single k (rest 𝓡 a) b (λ i h. v (suc i) (omega arith)) n)
      ∙ ap (λ x. x ⊕ a (suc k) ⊙ b n) (Ring.zero-mul 𝓡 (b (suc (k + n))))
      ∙ Ring.zero-add 𝓡 (a (suc k) ⊙ b n)

  -- and 0 below k
  pub convolution_single_below : (k : ℕ) (a b : ℕ → R) → ((i : ℕ) → i ≢ k → a i ≡ 𝟘) → (n : ℕ) → n < k → convolution 𝓡 a b n ≡ 𝟘
  convolution_single_below zero a b v n h = absurd (not-suc-le-zero h)
  convolution_single_below (suc k) a b v zero h = convolution_first 𝓡 a b ∙ ap (λ x. x ⊙ b 0) (v 0 (omega arith)) ∙ Ring.zero-mul 𝓡 (b 0)
  convolution_single_below (suc k) a b v (suc n) h =
      convolution_rest 𝓡 a b n
      ∙ ap₂ (λ x y. x ⊙ b (suc n) ⊕ y) (v 0 (omega arith)) (convolution_single_below k (rest 𝓡 a) b (λ i h. v (suc i) (omega arith)) n (omega arith))
      ∙ ap (λ x. x ⊕ 𝟘) (Ring.zero-mul 𝓡 (b (suc n)))
      ∙ Ring.add-zero 𝓡 𝟘

  -- the last element of a product is the product of the last elements
  pub convolution_last : (m n : ℕ) (a b : ℕ → R) → Vanishes 𝓡 a (suc m) → Vanishes 𝓡 b (suc n) → convolution 𝓡 a b (m + n) ≡ a m ⊙ b n
  convolution_last zero n a b va vb = ap (convolution 𝓡 a b) (zero-add n) ∙ convolution_constant a b va n
  convolution_last (suc m) n a b va vb =
      ap (convolution 𝓡 a b) (suc-add m n)
      ∙ convolution_rest 𝓡 a b (m + n)
      ∙ ap₂ (λ x y. a 0 ⊙ x ⊕ y) (vb (suc (m + n)) (omega arith)) (convolution_last m n (rest 𝓡 a) b (λ i h. va (suc i) (omega arith)) vb)
      ∙ ap (λ x. x ⊕ a (suc m) ⊙ b n) (Ring.mul-zero 𝓡 (a 0))
      ∙ Ring.zero-add 𝓡 (a (suc m) ⊙ b n)
