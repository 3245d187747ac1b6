-- Every polynomial is written as one number, and a number's digits are the coefficients of the polynomial that it stands for. Assumes nothing.
use mathlib.Core.Path.{◌≡◌, refl, sym, ap, ap₂, ◌∙◌, subst}
use Prim.Native.Nat.{ℕ, zero, suc, ◌+◌, ◌*◌, ◌/◌, ◌%◌, ◌^◌, ◌≤◌, ◌<◌}
use native.Mathlib.Nat.{pow-zero, pow-suc, pow-succ', pow-le-pow_right, lt_of_lt_of_le, div-add-mod', div-one, div-div-eq-div-mul, div-lt_iff_lt-mul}
use native.Mathlib.Omega.{arith}
use lib.Arith.{digits_lt, digits_div, digits_mod}
use Rattle.algebra.specs.Field.{Field}
use Rattle.polynomials.specs.Sequence.{Vanishes}
use Rattle.polynomials.specs.Polynomial.{Polynomial, polynomial, monomial, plus, times}
use Rattle.polynomials.specs.Words.{digit, div_smaller, digit_beyond, Digits, element_zero, from_word, digits, to_word}
use Rattle.polynomials.proofs.Equality.{extensional, bound_least}
use Rattle.polynomials.proofs.Monomials.{split_first}

-- the i-th digit, by powers of the base
pub digit_power : (b w i : ℕ) → digit b w i ≡ w / b ^ i % b
unfolding digit
digit_power b w zero = sym (ap (λ x. w / x % b) (pow-zero b) ∙ ap (λ x. x % b) (div-one w))
digit_power b w (suc i) = digit_power b (w / b) i ∙ ap (λ x. x % b) (div-div-eq-div-mul w b (b ^ i) ∙ ap (λ x. w / x) (sym (pow-succ' b i)))

-- a number below b^n has no more than n digits
pub digit_above : (b w n i : ℕ) → 2 ≤ b → w < b ^ n → n ≤ i → digit b w i ≡ 0
unfolding digit
digit_above b w zero i h k l = digit_beyond b w i h (omega (arith, pow-zero b))
digit_above b w (suc n) zero h k l = absurd (omega arith)
digit_above b w (suc n) (suc i) h k l = digit_above b (w / b) n i h ((div-lt_iff_lt-mul (omega arith)).1 (subst (λ x. w < x) (pow-suc b n) k)) (omega arith)

-- numbers with the same digits are equal
pub same_digits : (b : ℕ) → 2 ≤ b → (v w : ℕ) → ((i : ℕ) → digit b v i ≡ digit b w i) → v ≡ w
unfolding digit
same_digits b h v w e = go (v + w) v w (omega arith) (omega arith) e
  where
    go : (n v w : ℕ) → v ≤ n → w ≤ n → ((i : ℕ) → digit b v i ≡ digit b w i) → v ≡ w
    go zero v w hv hw e = omega arith
    go (suc n) v w hv hw e =
        sym (div-add-mod' v b)
        ∙ ap₂ (λ x y. x * b + y) (go n (v / b) (w / b) (div_smaller b v n h hv) (div_smaller b w n h hw) (λ i. e (suc i))) (e 0)
        ∙ div-add-mod' w b

module _ {K : Type 0} (𝓚 : Field K) (d : Digits 𝓚) where
  -- the coefficients of the polynomial of a number are its digits
  pub coefficient_from_word : (w i : ℕ) → (from_word 𝓚 d w).coefficient i ≡ d.element (digit d.base w i)
  unfolding from_word polynomial
  coefficient_from_word w i = refl

  -- a number below base^n stands for a polynomial of at most n coefficients
  pub from_word_vanishes : (w n : ℕ) → w < d.base ^ n → Vanishes 𝓚.ring (from_word 𝓚 d w).coefficient n
  from_word_vanishes w n h i k = coefficient_from_word w i ∙ ap d.element (digit_above d.base w n i d.two_or_more h k) ∙ element_zero 𝓚 d

  -- the last digit is the constant coefficient, and the number without it stands for the others
  pub from_word_step : (w : ℕ) → plus 𝓚 (monomial 𝓚 (d.element (w % d.base)) 0) (times 𝓚 (monomial 𝓚 𝓚.ring.one 1) (from_word 𝓚 d (w / d.base))) ≡ from_word 𝓚 d w
  unfolding from_word polynomial digit
  from_word_step w = split_first 𝓚 (from_word 𝓚 d w) (from_word 𝓚 d (w / d.base)) (λ i. refl)

  digit_digits : (n : ℕ) (a : ℕ → K) → Vanishes 𝓚.ring a n → (i : ℕ) → digit d.base (digits 𝓚 d n a) i ≡ d.number (a i)
  unfolding digits digit
  digit_digits zero a v i = digit_beyond d.base 0 i d.two_or_more (omega arith) ∙ sym (ap d.number (v i (omega arith)) ∙ d.number_zero)
  digit_digits (suc n) a v zero = digits_mod (digits 𝓚 d n (λ i. a (suc i))) (d.number_small (a 0))
  digit_digits (suc n) a v (suc i) =
      ap (λ w. digit d.base w i) (digits_div (digits 𝓚 d n (λ i. a (suc i))) (d.number_small (a 0)))
      ∙ digit_digits n (λ i. a (suc i)) (λ j h. v (suc j) (omega arith)) i

  -- the digits of the number of a polynomial are those that its coefficients are written as
  pub digit_to_word : (p : Polynomial 𝓚) (i : ℕ) → digit d.base (to_word 𝓚 d p) i ≡ d.number (p.coefficient i)
  unfolding to_word
  digit_to_word p = digit_digits p.bound p.coefficient p.beyond

  -- the number of a polynomial stands for it
  pub from_word_to_word : (p : Polynomial 𝓚) → from_word 𝓚 d (to_word 𝓚 d p) ≡ p
  from_word_to_word p = extensional 𝓚 _ _ (λ i. coefficient_from_word (to_word 𝓚 d p) i ∙ ap d.element (digit_to_word p i) ∙ d.element_number (p.coefficient i))

  digits_small : (n : ℕ) (a : ℕ → K) → digits 𝓚 d n a < d.base ^ n
  unfolding digits
  digits_small zero a = omega (arith, pow-zero d.base)
  digits_small (suc n) a = subst (λ x. digits 𝓚 d (suc n) a < x) (sym (pow-suc d.base n)) (digits_lt (digits_small n (λ i. a (suc i))) (d.number_small (a 0)))

  -- the number of a polynomial of at most n coefficients is below base^n
  pub to_word_small : (p : Polynomial 𝓚) (n : ℕ) → Vanishes 𝓚.ring p.coefficient n → to_word 𝓚 d p < d.base ^ n
  unfolding to_word
  to_word_small p n v = lt_of_lt_of_le (digits_small p.bound p.coefficient) (pow-le-pow_right (omega (arith, d.two_or_more)) (bound_least 𝓚 p n v))

  -- a number whose digits are those that elements are written as is the number of its polynomial
  pub to_word_from_word : (w : ℕ) → ((i : ℕ) → d.number (d.element (digit d.base w i)) ≡ digit d.base w i) → to_word 𝓚 d (from_word 𝓚 d w) ≡ w
  to_word_from_word w h =
      same_digits d.base d.two_or_more (to_word 𝓚 d (from_word 𝓚 d w)) w
      (λ i. digit_to_word (from_word 𝓚 d w) i ∙ ap d.number (coefficient_from_word w i) ∙ h i)
