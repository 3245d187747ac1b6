-- A number with zeros written behind it stands for the polynomial times a power of x. Assumes nothing.
use mathlib.Core.Path.{◌≡◌, sym, ap, ◌∙◌, subst}
use Prim.Native.Nat.{ℕ, zero, suc, ◌+◌, ◌-◌, ◌*◌, ◌/◌, ◌%◌, ◌^◌, ◌<◌}
use native.Mathlib.Nat.{pow-zero, pow-suc, mul-pos, mul_assoc, mul-div_cancel, div-div-eq-div-mul, mul-mod_left, add-sub_of_le}
use native.Mathlib.Decide.{dec_le}
use native.Mathlib.Omega.{arith}
use lib.Pow.{pow-add}
use Rattle.algebra.specs.Field.{Field}
use Rattle.algebra.proofs.Ring
use Rattle.polynomials.specs.Polynomial.{zero_polynomial, monomial, times}
use Rattle.polynomials.specs.Words.{digit, Digits, element_zero, from_word}
use Rattle.polynomials.proofs.Equality.{extensional}
use Rattle.polynomials.proofs.Coefficients.{coefficient_shift, coefficient_shift_below}
use Rattle.polynomials.proofs.Degree.{vanishes_zero}
use Rattle.polynomials.proofs.Words.{digit_power, coefficient_from_word, from_word_vanishes}

-- the powers of a number from 1 on are not 0
power_positive : (b k : ℕ) → 0 < b → 0 < b ^ k
power_positive b zero h = omega (arith, pow-zero b)
power_positive b (suc k) h = subst (λ x. 0 < x) (sym (pow-suc b k)) (mul-pos (power_positive b k h) h)

-- with k zeros behind it, a number has its digits k places up
pub digit_shift : (b w k i : ℕ) → 0 < b → digit b (w * b ^ k) (k + i) ≡ digit b w i
digit_shift b w k i h =
    digit_power b (w * b ^ k) (k + i)
    ∙ ap (λ x. w * b ^ k / x % b) (pow-add b k i)
    ∙ ap (λ x. x % b) (sym (div-div-eq-div-mul (w * b ^ k) (b ^ k) (b ^ i)) ∙ ap (λ x. x / b ^ i) (mul-div_cancel w (power_positive b k h)))
    ∙ sym (digit_power b w i)

-- and zeros below
pub digit_shift_below : (b w k i : ℕ) → 0 < b → i < k → digit b (w * b ^ k) i ≡ 0
digit_shift_below b w k i h l =
    digit_power b (w * b ^ k) i
    ∙ ap (λ x. w * b ^ x / b ^ i % b) (sym split)
    ∙ ap (λ x. x / b ^ i % b) parts
    ∙ ap (λ x. x % b) (mul-div_cancel (w * b ^ (k - suc i) * b) (power_positive b i h))
    ∙ mul-mod_left (w * b ^ (k - suc i)) b
  where
    split : suc (k - suc i) + i ≡ k
    split = omega arith

    parts : w * b ^ (suc (k - suc i) + i) ≡ w * b ^ (k - suc i) * b * b ^ i
    parts =
        ap (λ x. w * x) (pow-add b (suc (k - suc i)) i ∙ ap (λ x. x * b ^ i) (pow-suc b (k - suc i)))
        ∙ sym (mul_assoc w (b ^ (k - suc i) * b) (b ^ i))
        ∙ ap (λ x. x * b ^ i) (sym (mul_assoc w (b ^ (k - suc i)) b))

module _ {K : Type 0} (𝓚 : Field K) (d : Digits 𝓚) where
  -- the number 0 stands for the polynomial 0
  pub from_word_zero : from_word 𝓚 d 0 ≡ zero_polynomial 𝓚
  from_word_zero = vanishes_zero 𝓚 (from_word 𝓚 d 0) (from_word_vanishes 𝓚 d 0 0 (omega (arith, pow-zero d.base)))

  -- k zeros behind a number multiply its polynomial by x^k
  pub from_word_shift : (w k : ℕ) → from_word 𝓚 d (w * d.base ^ k) ≡ times 𝓚 (monomial 𝓚 𝓚.ring.one k) (from_word 𝓚 d w)
  from_word_shift w k = extensional 𝓚 _ _ (λ n. elim (dec_le k n) [ yes h ↦ subst Same (add-sub_of_le h) (from (n - k)) | no h ↦ below n (omega arith) ])
    where
      Same : ℕ → Type 0
      Same n = (from_word 𝓚 d (w * d.base ^ k)).coefficient n ≡ (times 𝓚 (monomial 𝓚 𝓚.ring.one k) (from_word 𝓚 d w)).coefficient n

      positive : 0 < d.base
      positive = omega (arith, d.two_or_more)

      from : (i : ℕ) → Same (k + i)
      from i =
          coefficient_from_word 𝓚 d (w * d.base ^ k) (k + i)
          ∙ ap d.element (digit_shift d.base w k i positive)
          ∙ sym (coefficient_shift 𝓚 𝓚.ring.one k (from_word 𝓚 d w) i ∙ Ring.one-mul 𝓚.ring _ ∙ coefficient_from_word 𝓚 d w i)

      below : (n : ℕ) → n < k → Same n
      below n h =
          coefficient_from_word 𝓚 d (w * d.base ^ k) n
          ∙ ap d.element (digit_shift_below d.base w k n positive h)
          ∙ element_zero 𝓚 d
          ∙ sym (coefficient_shift_below 𝓚 𝓚.ring.one k (from_word 𝓚 d w) n h)
