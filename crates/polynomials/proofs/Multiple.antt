-- Multiples a + a + .. + a in a commutative ring. Assumes nothing.
use mathlib.Core.Path.{◌≡◌, refl, sym, ap, ◌∙◌}
use mathlib.Mathlib.Algebra.Ring.Defs.{CommRing}
use Prim.Native.Nat.{ℕ, zero, suc, ◌+◌}
use native.Mathlib.Nat.{zero-add, suc-add}
use Rattle.algebra.proofs.Ring
use Rattle.polynomials.specs.Sequence.{multiple}

module _ {R : Type 0} (𝓡 : CommRing R) where
  open 𝓡 use {add as ◌⊕◌, mul as ◌⊙◌, zero as 𝟘}

  infixl 65 ◌⊕◌
  infixl 70 ◌⊙◌
  -- n + 1 times a
  pub multiple_suc : (n : ℕ) (a : R) → multiple 𝓡 (suc n) a ≡ a ⊕ multiple 𝓡 n a
  unfolding multiple
  multiple_suc n a = refl

  -- a once
  pub multiple_one : (a : R) → multiple 𝓡 1 a ≡ a
  unfolding multiple
  multiple_one a = Ring.add-zero 𝓡 a

  -- a multiple of a sum is the sum of the multiples
  pub multiple_sum : (n : ℕ) (a b : R) → multiple 𝓡 n (a ⊕ b) ≡ multiple 𝓡 n a ⊕ multiple 𝓡 n b
  unfolding multiple
  multiple_sum zero a b = sym (Ring.add-zero 𝓡 𝟘)
  multiple_sum (suc n) a b = simp (multiple_sum n a b, Ring.add_assoc 𝓡, Ring.add_left_comm 𝓡)

  -- a multiple of a product is the product with the multiple
  pub multiple_product : (n : ℕ) (a b : R) → multiple 𝓡 n (a ⊙ b) ≡ a ⊙ multiple 𝓡 n b
  unfolding multiple
  multiple_product zero a b = sym (Ring.mul-zero 𝓡 a)
  multiple_product (suc n) a b = ap (λ x. a ⊙ b ⊕ x) (multiple_product n a b) ∙ sym (Ring.mul_add 𝓡 a b (multiple 𝓡 n b))

  -- a multiple by a sum is the sum of the multiples
  pub multiple_plus : (m n : ℕ) (a : R) → multiple 𝓡 (m + n) a ≡ multiple 𝓡 m a ⊕ multiple 𝓡 n a
  unfolding multiple
  multiple_plus zero n a = ap (λ k. multiple 𝓡 k a) (zero-add n) ∙ sym (Ring.zero-add 𝓡 (multiple 𝓡 n a))
  multiple_plus (suc m) n a = ap (λ k. multiple 𝓡 k a) (suc-add m n) ∙ ap (λ x. a ⊕ x) (multiple_plus m n a) ∙ sym (Ring.add_assoc 𝓡 a (multiple 𝓡 m a) (multiple 𝓡 n a))
