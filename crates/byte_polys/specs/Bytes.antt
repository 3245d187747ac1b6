-- Lists of bytes as the digits of a number, and as the coefficients of a polynomial. Assumes nothing.
use Rattle.std.specs.Prelude.{◌≡◌, ℕ, zero, suc, ◌+◌, ◌-◌, ◌*◌, ◌%◌, ◌<◌, ◌≤◌, List, [], ◌∷◌, slice_index, slice_index_or}
use Rattle.std.proofs.Common.{sym, ap, ◌∙◌, subst, arith}
use Rattle.std.proofs.Math.Nat as Nat
use Rattle.std.proofs.Math.Arith.{digits_div, digits_mod}
use Rattle.algebra.specs.Field.{Field}
use Rattle.algebra.proofs.Ring
use Rattle.polynomials.specs.Polynomial.{Polynomial, zero_polynomial}
use Rattle.polynomials.specs.Words.{digit, digit_beyond, Digits, element_zero, from_word, to_word}
use Rattle.polynomials.proofs.Coefficients.{coefficient_zero}
use Rattle.polynomials.proofs.Equality.{extensional}
use Rattle.polynomials.proofs.Words.{coefficient_from_word, to_word_from_word}
use Rattle.byte_polys.specs.ByteField.{number}

-- the digits of a number made of bytes are these bytes
pub digit_number : (cs : List ℕ) → ((i : ℕ) → slice_index cs i < 256) → (i : ℕ) → digit 256 (number cs) i ≡ slice_index cs i
unfolding digit number
digit_number [] h i = digit_beyond 256 0 i (omega arith) (omega arith)
digit_number (c ∷ cs) h zero = digits_mod (number cs) (h 0)
digit_number (c ∷ cs) h (suc i) = ap (λ w. digit 256 w i) (digits_div (number cs) (h 0)) ∙ digit_number cs (λ j. h (suc j)) i

-- the digits of base 256 that calculate modulo p
pub record Modulo {K : Type 0} (𝓚 : Field K) (d : Digits 𝓚) (p : ℕ) : Type 0 where
  pub base : d.base ≡ 256
  pub positive : 0 < p
  pub small : p ≤ 256
  pub one : d.element 1 ≡ 𝓚.ring.one
  pub add : (m n : ℕ) → d.element (m + n) ≡ 𝓚.ring.add (d.element m) (d.element n)
  pub mul : (m n : ℕ) → d.element (m * n) ≡ 𝓚.ring.mul (d.element m) (d.element n)
  pub rest : (n : ℕ) → d.number (d.element n) ≡ n % p

module _ {K : Type 0} {𝓚 : Field K} {d : Digits 𝓚} {p : ℕ} (L : Modulo 𝓚 d p) where
  -- the coefficients of the polynomial of a list of bytes are the bytes
  pub coefficient_byte : (cs : List ℕ) → ((i : ℕ) → slice_index cs i < 256) → (i : ℕ) → (from_word 𝓚 d (number cs)).coefficient i ≡ d.element (slice_index cs i)
  coefficient_byte cs h i = coefficient_from_word 𝓚 d (number cs) i ∙ ap (λ b. d.element (digit b (number cs) i)) L.base ∙ ap d.element (digit_number cs h i)

  -- what is below p is a byte
  pub below_byte : (cs : List ℕ) → ((i : ℕ) → slice_index cs i < p) → (i : ℕ) → slice_index cs i < 256
  below_byte cs h i = let b = h i in let s = L.small in omega arith

  -- those of a list of numbers below p are these
  pub coefficient_below : (cs : List ℕ) → ((i : ℕ) → slice_index cs i < p) → (i : ℕ) → (from_word 𝓚 d (number cs)).coefficient i ≡ d.element (slice_index cs i)
  coefficient_below cs h = coefficient_byte cs (below_byte cs h)

  -- numbers that stand for the same element have the same remainder
  pub element_equal : (m n : ℕ) → d.element m ≡ d.element n → m % p ≡ n % p
  element_equal m n e = sym (L.rest m) ∙ ap d.number e ∙ L.rest n

  -- a remainder stands for the same element as its number
  pub element_mod : (n : ℕ) → d.element (n % p) ≡ d.element n
  element_mod n = ap d.element (sym (L.rest n)) ∙ d.element_number (d.element n)

  -- so numbers with the same remainder do
  pub equal_element : (m n : ℕ) → m % p ≡ n % p → d.element m ≡ d.element n
  equal_element m n e = sym (element_mod m) ∙ ap d.element e ∙ element_mod n

  -- below p they are then equal
  pub below_equal : (m n : ℕ) → m < p → n < p → d.element m ≡ d.element n → m ≡ n
  below_equal m n hm hn e = sym (Nat.mod-eq_of_lt hm) ∙ element_equal m n e ∙ Nat.mod-eq_of_lt hn

  -- only 0 stands for 0
  pub below_zero : (n : ℕ) → n < p → d.element n ≡ 𝓚.ring.zero → n ≡ 0
  below_zero n h e = below_equal n 0 h L.positive (e ∙ sym (element_zero 𝓚 d))

  -- p stands for 0
  pub element_p : d.element p ≡ 𝓚.ring.zero
  element_p = equal_element p 0 (Nat.mod_self p ∙ sym (Nat.zero-mod p)) ∙ element_zero 𝓚 d

  -- p − c stands for the negative of c
  pub element_neg : (c : ℕ) → c ≤ p → d.element (p - c) ≡ 𝓚.ring.neg (d.element c)
  element_neg c h =
      Ring.neg_unique 𝓚.ring (d.element c) (d.element (p - c))
      (sym (L.add c (p - c)) ∙ ap d.element (Nat.add-sub_of_le h) ∙ element_p)

  -- the word of the polynomial of a list of bytes below p is their number
  pub word_number : (cs : List ℕ) → ((i : ℕ) → slice_index cs i < p) → to_word 𝓚 d (from_word 𝓚 d (number cs)) ≡ number cs
  word_number cs h =
      to_word_from_word 𝓚 d (number cs) (λ i.
      let same : digit d.base (number cs) i ≡ slice_index_or cs i 0 = ap (λ b. digit b (number cs) i) L.base ∙ digit_number cs (below_byte cs h) i in
      L.rest (digit d.base (number cs) i) ∙ Nat.mod-eq_of_lt (subst (λ x. x < p) (sym same) (h i)))

  -- a list of numbers below p with the coefficients of a polynomial stands for it
  pub poly_is : (cs : List ℕ) (f : Polynomial 𝓚) → ((i : ℕ) → slice_index cs i < p) → ((i : ℕ) → d.element (slice_index cs i) ≡ f.coefficient i) → from_word 𝓚 d (number cs) ≡ f
  poly_is cs f h e = extensional 𝓚 _ _ (λ i. coefficient_below cs h i ∙ e i)

  -- its number is then the word of that polynomial
  pub number_is : (cs : List ℕ) (f : Polynomial 𝓚) → ((i : ℕ) → slice_index cs i < p) → from_word 𝓚 d (number cs) ≡ f → number cs ≡ to_word 𝓚 d f
  number_is cs f h e = sym (word_number cs h) ∙ ap (to_word 𝓚 d) e

  -- where a list stands for 0, all its numbers are 0
  pub zero_bytes : (cs : List ℕ) → ((i : ℕ) → slice_index cs i < p) → from_word 𝓚 d (number cs) ≡ zero_polynomial 𝓚 → (i : ℕ) → slice_index cs i ≡ 0
  zero_bytes cs h e i = below_zero (slice_index cs i) (h i) (sym (coefficient_below cs h i) ∙ ap (λ (f : Polynomial 𝓚). f.coefficient i) e ∙ coefficient_zero 𝓚 i)

  -- and where they are, it stands for 0
  pub bytes_zero : (cs : List ℕ) → ((i : ℕ) → slice_index cs i ≡ 0) → from_word 𝓚 d (number cs) ≡ zero_polynomial 𝓚
  bytes_zero cs z =
      poly_is cs (zero_polynomial 𝓚) (λ i. let e = z i in let s = L.positive in omega arith)
      (λ i. ap d.element (z i) ∙ element_zero 𝓚 d ∙ sym (coefficient_zero 𝓚 i))
