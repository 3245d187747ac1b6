-- Long division of words, stage by stage. Assumes nothing.
use Rattle.std.proofs.Common.{◌≡◌, ℕ, suc, ◌-◌, ◌*◌, ◌/◌, ◌%◌, ◌^◌, ◌<◌, ◌≤◌, ◌≢◌, sym, ap, ◌∙◌, subst, ap₂, arith, pow_pos, pow_mono}
use native.Mathlib.Nat as Nat
use lib.Bits.{bit_xor, xor_lt}
use lib.Pow.{pow-lt}
use Rattle.std.proofs.lemmas.Nat.{one_shl}
use Rattle.algebra.specs.Euclidean.{Division}
use Rattle.algebra.proofs.Ring
use Rattle.polynomials.specs.Sequence.{Vanishes}
use Rattle.polynomials.specs.Polynomial.{zero_polynomial}
use Rattle.polynomials.specs.Words.{to_word}
use Rattle.polynomials.proofs.Ring.{polynomial_ring}
use Rattle.polynomials.proofs.Euclidean.{polynomials}
use Rattle.polynomials.proofs.Remainder.{smaller_degree, division_remainder}
use Rattle.bit_polys.specs.BitPolys.{bit_field, bit_digits, polynomial_of}
use Rattle.bit_polys.specs.Division.{LongDivision}
use Rattle.bit_polys.specs.Words.{word_of_polynomial, zero_stands, zero_only}
use Rattle.bit_polys.specs.HighestBits.{Top, xor_top, top_below, shifted_top, shifted_zero}
use Rattle.bit_polys.specs.Degrees.{word_vanishes, word_degree}
use Rattle.bit_polys.proofs.Steps.{step}
open polynomial_ring bit_field use {add as ◌⊕◌, mul as ◌⊙◌}

infixl 65 ◌⊕◌
infixl 70 ◌⊙◌
-- What is known when the division of a by b has found q so far and `rest` is left.
pub record Stage (a b q rest : ℕ) : Type 0 where
  pub sum : polynomial_of a ≡ polynomial_of q ⊙ polynomial_of b ⊕ polynomial_of rest
  -- neither is longer than the dividend, where that has 32 bits
  pub short : a < 2 ^ 32 → (q < 2 ^ 32) × (rest < 2 ^ 32)

-- before anything is found
pub start : (a b : ℕ) → Stage a b 0 a
start a b = record {
  sum = sym (ap (λ p. p ⊙ polynomial_of b ⊕ polynomial_of a) zero_stands ∙ ap (λ p. p ⊕ polynomial_of a) (Ring.zero-mul (polynomial_ring bit_field) (polynomial_of b)) ∙ Ring.zero-add (polynomial_ring bit_field) (polynomial_of a));
  short = λ h. (pow_pos 32, h);
}

module _ (b d rest n : ℕ) (divisor : Top b d) (left : Top rest n) (long : d ≤ n) (fits : n < 64) where
  -- the shifted divisor has its highest bit where the rest has it
  moved : Top (b * 2 ^ (n - d)) n
  moved = shifted_top b d n divisor long

  -- so it fits 64 bits
  whole : b * 2 ^ (n - d) % 2 ^ 64 ≡ b * 2 ^ (n - d)
  whole = Nat.mod-eq_of_lt (omega (arith, moved.high, Nat.pow-succ' 2 n, pow_mono {i = suc n} {j = 64} fits))

  -- and taking it away clears that bit
  pub rest_falls : bit_xor rest (b * 2 ^ (n - d) % 2 ^ 64) < 2 ^ n
  rest_falls = subst (λ x. bit_xor rest x < 2 ^ n) (sym whole) (xor_top rest (b * 2 ^ (n - d)) n left moved)

  -- after a turn
  pub next : (a q : ℕ) → Stage a b q rest → Stage a b (bit_xor q (1 * 2 ^ (n - d) % 2 ^ 64)) (bit_xor rest (b * 2 ^ (n - d) % 2 ^ 64))
  next a q s = record {
    sum = s.sum ∙ sym (ap₂ (λ x y. polynomial_of (bit_xor q x) ⊙ polynomial_of b ⊕ polynomial_of (bit_xor rest y)) place whole ∙ step q rest b (n - d));
    short = λ h.
        let (x, y) = s.short h in
        let low : n - d < 32 = let l = top_below rest n 32 left y in omega arith in
        (xor_lt 32 q (1 * 2 ^ (n - d) % 2 ^ 64) x (subst (λ z. z < 2 ^ 32) (sym place) (pow-lt low)), omega (arith, rest_falls, left.low));
  }
    where
      -- the place of the bit that the quotient gets
      place : 1 * 2 ^ (n - d) % 2 ^ 64 ≡ 2 ^ (n - d)
      place = one_shl (n - d) 64 (omega arith)

-- with a rest of lower degree than the divisor, the division is done
pub done : (a b q rest d : ℕ) → Stage a b q rest → Top b d → rest / 2 ^ d ≡ 0 → LongDivision a b q rest
done a b q rest d s t e = record {
  divided = record { by_nonzero = λ _. division; by_zero = λ z. absurd (nonzero z) };
  reduced = sym (ap (to_word bit_field bit_digits) (division_remainder bit_field (polynomial_of b) nonzero (polynomial_of a) (polynomial_of q) (polynomial_of rest) division) ∙ word_of_polynomial rest);
  below = omega (arith, t.low, shifted_zero rest d e);
  short = λ k. (s.short k).0;
}
  where
    division : Division (polynomials bit_field) (polynomial_of a) (polynomial_of b) (polynomial_of q) (polynomial_of rest)
    division = record {
      sum = s.sum;
      small = smaller_degree bit_field (polynomial_of b) (polynomial_of rest) (subst (Vanishes bit_field.ring (polynomial_of rest).coefficient) (sym (word_degree b d t)) (word_vanishes rest d (shifted_zero rest d e)));
    }

    nonzero : polynomial_of b ≢ zero_polynomial bit_field
    nonzero z = omega (arith, zero_only b z, t.low, pow_pos d)
