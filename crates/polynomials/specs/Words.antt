-- Polynomials written as numbers: each digit is a coefficient, the last digit that of x^0. Assumes nothing.
use Rattle.std.specs.Prelude.{◌≡◌, ℕ, zero, suc, ◌+◌, ◌*◌, ◌/◌, ◌%◌, ◌≤◌, ◌<◌}
use Rattle.std.proofs.Common.{sym, ap, ◌∙◌, inl, inr, eq-zero-or-pos, arith}
use Rattle.std.proofs.Math.Nat.{zero-mod, zero-div, div-lt_self}
use Rattle.algebra.specs.Field.{Field}
use Rattle.polynomials.specs.Polynomial.{Polynomial, polynomial}

-- the i-th digit of w in base b, the last one first
unfoldable pub digit : ℕ → ℕ → ℕ → ℕ
digit b w zero = w % b
digit b w (suc i) = digit b (w / b) i

-- a number without its last digit is smaller, unless it is 0
pub div_smaller : (b w n : ℕ) → 2 ≤ b → w ≤ suc n → w / b ≤ n
div_smaller b w n h k =
    elim (eq-zero-or-pos w) [ inl e ↦ omega (arith, ap (λ x. x / b) e ∙ zero-div b) | inr p ↦ omega (arith, div-lt_self {n = w} {k = b} p h) ]

-- the digits of w from the w-th on are 0
pub digit_beyond : (b w i : ℕ) → 2 ≤ b → w ≤ i → digit b w i ≡ 0
unfolding digit
digit_beyond b w zero h k = let e : w ≡ 0 = omega arith in ap (λ x. x % b) e ∙ zero-mod b
digit_beyond b w (suc i) h k = digit_beyond b (w / b) i h (div_smaller b w i h k)

module _ {K : Type 0} (𝓚 : Field K) where
  -- how the elements of a field are written as digits
  pub record Digits : Type 0 where
    -- how many digits there are, from 0 on
    pub base : ℕ
    pub two_or_more : 2 ≤ base
    -- the element that a digit stands for
    pub element : ℕ → K
    -- the digit that an element is written as
    pub number : K → ℕ
    -- it is a digit, that of 0 is 0, and it stands for the element
    pub number_small : (a : K) → number a < base
    pub number_zero : number 𝓚.ring.zero ≡ 0
    pub element_number : (a : K) → element (number a) ≡ a

  -- the digit 0 stands for 0
  pub element_zero : (d : Digits) → d.element 0 ≡ 𝓚.ring.zero
  element_zero d = ap d.element (sym d.number_zero) ∙ d.element_number 𝓚.ring.zero

  module _ (d : Digits) where
    -- the polynomial that a number stands for
    unfoldable pub from_word : ℕ → Polynomial 𝓚
    from_word w = polynomial 𝓚 (λ i. d.element (digit d.base w i)) w (λ i h. ap d.element (digit_beyond d.base w i d.two_or_more h) ∙ element_zero d)

    -- the number whose digits are the first n elements of a sequence
    unfoldable pub digits : ℕ → (ℕ → K) → ℕ
    digits zero a = 0
    digits (suc n) a = digits n (λ i. a (suc i)) * d.base + d.number (a 0)

    -- the number that a polynomial is written as
    unfoldable pub to_word : Polynomial 𝓚 → ℕ
    to_word p = digits p.bound p.coefficient
