-- The derivative of the polynomial of a word. Assumes nothing.
use Rattle.std.proofs.Common.{◌≡◌, ℕ, zero, suc, ◌+◌, ◌*◌, ◌/◌, ◌%◌, ◌^◌, ◌<◌, ◌⊎◌, sym, refl, ap, ◌∙◌, inl, inr, arith, lit≤}
use native.Mathlib.Nat as Nat
use lib.Bits.{bit_and, and_shr, and_mod, and_mask, and_comm}
use Rattle.std.proofs.lemmas.Bool.{cases_lt}
use Rattle.polynomials.specs.Sequence.{multiple}
use Rattle.polynomials.specs.Polynomial.{derivative}
use Rattle.polynomials.specs.Words.{digit}
use Rattle.polynomials.proofs.Equality.{extensional}
use Rattle.polynomials.proofs.Coefficients.{coefficient_derivative}
use Rattle.polynomials.proofs.Words.{digit_power, digit_above}
use Rattle.polynomial_domains.specs.PrimeField.{modular}
use Rattle.polynomial_domains.proofs.PrimeField.{equal_modular}
use Rattle.bit_polys.specs.BitPolys.{bit_field, polynomial_of}
use Rattle.bit_polys.specs.Words.{coefficient_word, bits_add}

-- the number whose first 2 k bits are 1, 0, 1, 0 and so on, from the last one
abbrev even_places : ℕ → ℕ
even_places zero = 0
even_places (suc k) = 4 * even_places k + 1

-- its bit i is 1 for even i, and 0 for odd i
even_place : (k i : ℕ) → i < 2 * k → digit 2 (even_places k) i ≡ suc i % 2
unfolding digit
even_place zero i h = absurd (omega arith)
even_place (suc k) zero h = omega arith
even_place (suc k) (suc zero) h = omega arith
even_place (suc k) (suc (suc i)) h =
    ap (λ x. digit 2 x i) (omega arith) ∙ even_place k i (omega arith) ∙ omega arith

-- a bit is 0 or 1
bit_cases : (x : ℕ) → (x % 2 ≡ 0) ⊎ (x % 2 ≡ 1)
bit_cases x = elim (cases_lt (x % 2) 1) [ inl h ↦ inl (omega arith) | inr h ↦ inr (omega arith) ]

-- a bit under the mask n % 2 is n times the bit
masked : (u n : ℕ) → bit_and (u % 2) (n % 2) ≡ n * (u % 2) % 2
masked u n = elim (bit_cases u) [
  | inl e ↦ ap (λ x. bit_and x (n % 2)) e ∙ sym (ap (λ x. n * x % 2) e ∙ ap (λ x. x % 2) (Nat.mul-zero n))
  | inr e ↦ ap (λ x. bit_and x (n % 2)) e ∙ and_comm 1 (n % 2) ∙ and_mask (n % 2) 1 ∙ Nat.mod-mod n 2 ∙ sym (ap (λ x. n * x % 2) e ∙ ap (λ x. x % 2) (Nat.mul-one n))
]

-- the bits of (w >> 1) & 0x55555555: bit i is i + 1 times bit i + 1 of w
masked_bit : (w i : ℕ) → w < 2 ^ 32 → bit_and (w / 2) 0x5555_5555 / 2 ^ i % 2 ≡ suc i * (w / 2 ^ suc i % 2) % 2
masked_bit w i h =
    ap (λ x. x % 2) (and_shr (w / 2) 0x5555_5555 i)
    ∙ and_mod (w / 2 / 2 ^ i) (0x5555_5555 / 2 ^ i) 1
    ∙ elim (cases_lt i 32) [
      | inl l ↦ ap (bit_and (w / 2 / 2 ^ i % 2)) (sym (digit_power 2 0x5555_5555 i) ∙ even_place 16 i l) ∙ masked (w / 2 / 2 ^ i) (suc i) ∙ ap (λ x. suc i * x % 2) moved
      | inr l ↦
          let none : w / 2 ^ suc i % 2 ≡ 0 = sym (digit_power 2 w (suc i)) ∙ digit_above 2 w 32 (suc i) (lit≤ tt) h (omega arith) in
          ap (λ x. bit_and x (0x5555_5555 / 2 ^ i % 2)) (moved ∙ none) ∙ sym (ap (λ x. suc i * x % 2) none ∙ ap (λ x. x % 2) (Nat.mul-zero (suc i)))
    ]
  where
    moved : w / 2 / 2 ^ i % 2 ≡ w / 2 ^ suc i % 2
    moved = ap (λ x. x % 2) (Nat.div-div-eq-div-mul w 2 (2 ^ i) ∙ ap (λ x. w / x) (sym (Nat.pow-succ' 2 i)))

-- n times a bit
multiple_bit : (n x : ℕ) → multiple bit_field.ring n (modular 2 refl x) ≡ modular 2 refl (n * x)
unfolding multiple bit_field
multiple_bit zero x = ap (modular 2 refl) (sym (Nat.zero-mul x))
multiple_bit (suc n) x = ap (bit_field.ring.add (modular 2 refl x)) (multiple_bit n x) ∙ bits_add x (n * x) (suc n * x) (ap (λ y. y % 2) (omega (arith, Nat.suc-mul n x)))

-- every coefficient moves down one place, and those of even powers of x vanish
pub word_derivative : (w : ℕ) → w < 2 ^ 32 → polynomial_of (bit_and (w / 2) 0x5555_5555) ≡ derivative bit_field (polynomial_of w)
word_derivative w h =
    extensional bit_field _ _
    (λ i. coefficient_word (bit_and (w / 2) 0x5555_5555) i
    ∙ equal_modular 2 refl _ _ (ap (λ x. x % 2) (masked_bit w i h) ∙ Nat.mod-mod _ 2)
    ∙ sym (coefficient_derivative bit_field (polynomial_of w) i ∙ ap (multiple bit_field.ring (suc i)) (coefficient_word w (suc i)) ∙ multiple_bit (suc i) (w / 2 ^ suc i % 2)))
