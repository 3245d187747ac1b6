-- Multiplication of words, stage by stage. Assumes nothing.
use Rattle.std.proofs.Common.{◌≡◌, ℕ, ◌*◌, ◌%◌, ◌^◌, ◌<◌, sym, ap, ◌∙◌, subst, ap₂, arith, pow_pos}
use lib.Bits.{bit_xor}
use Rattle.algebra.proofs.Ring
use Rattle.std.proofs.lemmas.Nat.{one_shl, shl_whole}
use Rattle.polynomials.proofs.Ring.{polynomial_ring}
use Rattle.bit_polys.specs.BitPolys.{bit_field, polynomial_of}
use Rattle.bit_polys.specs.Words.{zero_stands}
use Rattle.bit_polys.specs.HighestBits.{Top, xor_top}
use Rattle.bit_polys.proofs.Steps.{step}
open polynomial_ring bit_field use {add as ◌⊕◌, mul as ◌⊙◌}

infixl 65 ◌⊕◌
infixl 70 ◌⊙◌
-- When `rest` is left of b, what is still to be added to the sum is its product with a.
abbrev pub Stage : ℕ → ℕ → ℕ → ℕ → Type 0
Stage a b sum rest = polynomial_of rest ⊙ polynomial_of a ⊕ polynomial_of sum ≡ polynomial_of b ⊙ polynomial_of a

-- before anything is added
pub start : (a b : ℕ) → Stage a b 0 b
start a b = ap (λ p. polynomial_of b ⊙ polynomial_of a ⊕ p) zero_stands ∙ Ring.add-zero (polynomial_ring bit_field) _

module _ (a rest n : ℕ) (short : a < 2 ^ 32) (left : Top rest n) (low : n < 32) where
  -- the place of the highest bit fits 32 bits
  place : 1 * 2 ^ n % 2 ^ 32 ≡ 2 ^ n
  place = one_shl n 32 low

  -- a turn clears the highest bit of the rest
  pub rest_falls : bit_xor rest (1 * 2 ^ n % 2 ^ 32) < 2 ^ n
  rest_falls = subst (λ x. bit_xor rest x < 2 ^ n) (sym place) (xor_top rest (2 ^ n) n left (record { low = omega arith; high = omega (arith, pow_pos n) }))

  -- after a turn
  pub next : (b sum : ℕ) → Stage a b sum rest → Stage a b (bit_xor sum (a * 2 ^ n % 2 ^ 64)) (bit_xor rest (1 * 2 ^ n % 2 ^ 32))
  next b sum s =
      ap₂ (λ x y. polynomial_of (bit_xor rest x) ⊙ polynomial_of a ⊕ polynomial_of (bit_xor sum y)) place (shl_whole a 32 n 64 short (omega arith))
      ∙ step rest sum a n
      ∙ s

-- with nothing left, the sum is the product
pub done : (a b sum rest : ℕ) → Stage a b sum rest → rest ≡ 0 → polynomial_of sum ≡ polynomial_of a ⊙ polynomial_of b
done a b sum rest s e =
    sym (Ring.zero-add (polynomial_ring bit_field) (polynomial_of sum))
    ∙ ap (λ p. p ⊕ polynomial_of sum) (sym (Ring.zero-mul (polynomial_ring bit_field) (polynomial_of a)))
    ∙ ap (λ p. p ⊙ polynomial_of a ⊕ polynomial_of sum) (sym (ap polynomial_of e ∙ zero_stands))
    ∙ s
    ∙ Ring.mul_comm (polynomial_ring bit_field) (polynomial_of b) (polynomial_of a)
