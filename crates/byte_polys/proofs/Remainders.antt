-- The first eight coefficients of a remainder modulo a monic polynomial. Assumes nothing.
use Rattle.std.proofs.Common.{◌≡◌, ℕ, ◌+◌, ◌*◌, ◌%◌, ◌<◌, ◌≤◌, List, get_or, take, sym, ap, ◌∙◌, subst, arith, length-take}
use native.Mathlib.Nat as Nat
use native.Mathlib.Decide.{dec_lt}
use Rattle.std.proofs.lemmas.List.{get_or-take, get_or_past}
use Rattle.algebra.specs.Field.{Field}
use Rattle.polynomials.specs.Polynomial.{plus, times}
use Rattle.polynomials.specs.Remainder.{remainder}
use Rattle.polynomials.specs.Words.{Digits, from_word, to_word}
use Rattle.byte_polys.specs.ByteField.{number}
use Rattle.byte_polys.specs.Steps.{Below, ZeroFrom, Divisor}
use Rattle.byte_polys.specs.Bytes.{Modulo, coefficient_below, poly_is, number_is}
use Rattle.byte_polys.specs.Degrees.{divisor_top, list_remainder}
use Rattle.byte_polys.specs.SamePrime.{below_same}

-- a monic polynomial is a divisor with the inverse 1
pub modulus_divisor : (p q : ℕ) (cs : List ℕ) (n : ℕ) → q ≡ p → Below q cs → n ≤ 7 → get_or cs n 0 ≡ 1 → ZeroFrom (n + 1) cs → Divisor p cs n 1
modulus_divisor p q cs n e h high one above = record {
  below = below_same cs e h;
  short = omega arith;
  above = above;
  product = ap (λ x. (x * 1) % p) one ∙ Nat.mod-eq_of_lt (subst (λ x. x < p) one (below_same cs e h n));
}

-- the coefficients of the first eight are these, and 0 from x^8 on
pub first_eight : (xs : List ℕ) → ZeroFrom 8 xs → (i : ℕ) → get_or (take 8 xs) i 0 ≡ get_or xs i 0
first_eight xs z i = go (dec_lt i 8)
  where
    go : Dec (i < 8) → get_or (take 8 xs) i 0 ≡ get_or xs i 0
    go (yes l) = get_or-take 8 xs i 0 l
    go (no l) = get_or_past (take 8 xs) i 0 (omega (arith, length-take 8 xs)) ∙ sym (z i (omega arith))

-- they are below p with the others
pub first_below : (p : ℕ) (low xs : List ℕ) → low ≡ take 8 xs → ZeroFrom 8 xs → Below p xs → Below p low
first_below p low xs e z h i = subst (λ x. x < p) (sym (ap (λ ys. get_or ys i 0) e ∙ first_eight xs z i)) (h i)

module _ {K : Type 0} {𝓚 : Field K} {d : Digits 𝓚} {p : ℕ} (L : Modulo 𝓚 d p) where
  -- they are the word of the remainder
  pub residue_number : {m : List ℕ} {n inverse : ℕ} → Divisor p m n inverse → (start quotient rest low : List ℕ) → low ≡ take 8 rest → Below p rest → ZeroFrom n rest
      → from_word 𝓚 d (number start) ≡ plus 𝓚 (times 𝓚 (from_word 𝓚 d (number quotient)) (from_word 𝓚 d (number m))) (from_word 𝓚 d (number rest))
      → number low ≡ to_word 𝓚 d (remainder 𝓚 (from_word 𝓚 d (number m)) (from_word 𝓚 d (number start)))
  residue_number {m} {n} D start quotient rest low is h z e =
      number_is L low _ below
      (poly_is L low _ below (λ i. ap d.element (ap (λ ys. get_or ys i 0) is ∙ first_eight rest short i) ∙ sym (coefficient_below L rest h i))
      ∙ sym (list_remainder L m n D.below (divisor_top D) start quotient rest h z e))
    where
      short : ZeroFrom 8 rest
      short i l = let s = D.short in z i (omega arith)

      below : Below p low
      below = first_below p low rest is short h
