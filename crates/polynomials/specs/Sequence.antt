-- Sequences of coefficients over a commutative ring: sums, and the product of two sequences. Assumes nothing.
use Rattle.std.specs.Prelude.{◌≡◌}
use Rattle.std.proofs.Math.Path.{refl, ap, ap₂, fun_ext}
use Rattle.std.proofs.Common.{◌∙◌, arith}
use mathlib.Mathlib.Algebra.Ring.Defs.{CommRing}
use Prim.Native.Nat.{ℕ, zero, suc, ◌+◌, ◌-◌, ◌≤◌, zero-le}
use Rattle.std.proofs.Math.Nat.{sub-zero, suc-sub-suc}
use Rattle.algebra.proofs.Ring.{add-zero, zero-add, mul-zero, zero-mul}

module _ {R : Type 0} (𝓡 : CommRing R) where
  open 𝓡 use {add as ◌⊕◌, mul as ◌⊙◌, zero as 𝟘}

  infixl 65 ◌⊕◌
  infixl 70 ◌⊙◌
  -- f 0 + f 1 + .. + f (n − 1)
  unfoldable pub sum : ℕ → (ℕ → R) → R
  sum zero f = 𝟘
  sum (suc n) f = f 0 ⊕ sum n (λ i. f (suc i))

  -- the product of two sequences: its n-th element is the sum of all a i · b j with i + j = n
  unfoldable pub convolution : (ℕ → R) → (ℕ → R) → ℕ → R
  convolution a b n = sum (suc n) (λ i. a i ⊙ b (n - i))

  -- a + a + .. + a, n times
  unfoldable pub multiple : ℕ → R → R
  multiple zero a = 𝟘
  multiple (suc n) a = a ⊕ multiple n a

  -- a multiple of 0 is 0
  pub multiple_zero : (n : ℕ) → multiple n 𝟘 ≡ 𝟘
  unfolding multiple
  multiple_zero zero = refl
  multiple_zero (suc n) = zero-add 𝓡 (multiple n 𝟘) ∙ multiple_zero n

  -- every element from the n-th on is 0
  abbrev pub Vanishes : (ℕ → R) → ℕ → Type 0
  Vanishes a n = (i : ℕ) → n ≤ i → a i ≡ 𝟘

  -- the sequence without its first element
  abbrev pub rest : (ℕ → R) → ℕ → R
  rest a i = a (suc i)

  -- the first element of a product
  pub convolution_first : (a b : ℕ → R) → convolution a b 0 ≡ a 0 ⊙ b 0
  unfolding convolution sum
  convolution_first a b = add-zero 𝓡 (a 0 ⊙ b (0 - 0)) ∙ ap (λ k. a 0 ⊙ b k) (sub-zero 0)

  -- the later ones
  pub convolution_rest : (a b : ℕ → R) (n : ℕ) → convolution a b (suc n) ≡ a 0 ⊙ b (suc n) ⊕ convolution (rest a) b n
  unfolding convolution sum
  convolution_rest a b n =
      ap₂ (λ x f. a 0 ⊙ b x ⊕ sum (suc n) f) (sub-zero (suc n)) (fun_ext (λ i. ap (λ k. a (suc i) ⊙ b k) (suc-sub-suc n i)))

  -- what is 0 throughout times anything is 0
  pub convolution_zero : (a b : ℕ → R) → Vanishes a 0 → (n : ℕ) → convolution a b n ≡ 𝟘
  convolution_zero a b va zero = convolution_first a b ∙ ap (λ x. x ⊙ b 0) (va 0 zero-le) ∙ zero-mul 𝓡 (b 0)
  convolution_zero a b va (suc n) =
      convolution_rest a b n
      ∙ ap₂ ◌⊕◌ (ap (λ x. x ⊙ b (suc n)) (va 0 zero-le) ∙ zero-mul 𝓡 (b (suc n))) (convolution_zero (rest a) b (λ i _. va (suc i) zero-le) n)
      ∙ add-zero 𝓡 𝟘

  -- m elements times n elements are fewer than m + n
  pub convolution_vanishes : (m n : ℕ) (a b : ℕ → R) → Vanishes a m → Vanishes b n → (i : ℕ) → m + n ≤ suc i → convolution a b i ≡ 𝟘
  convolution_vanishes zero n a b va vb i h = convolution_zero a b va i
  convolution_vanishes (suc m) n a b va vb zero h = convolution_first a b ∙ ap (λ x. a 0 ⊙ x) (vb 0 (omega arith)) ∙ mul-zero 𝓡 (a 0)
  convolution_vanishes (suc m) n a b va vb (suc i) h =
      convolution_rest a b i
      ∙ ap₂ ◌⊕◌ (ap (λ x. a 0 ⊙ x) (vb (suc i) (omega arith)) ∙ mul-zero 𝓡 (a 0))
      (convolution_vanishes m n (rest a) b (λ j k. va (suc j) (omega arith)) vb i (omega arith))
      ∙ add-zero 𝓡 𝟘
