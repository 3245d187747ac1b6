-- Sums, differences, multiples and products of lists of coefficients are those of their polynomials. Assumes nothing.
use Rattle.std.proofs.Common.{◌≡◌, ℕ, zero, suc, ◌+◌, ◌-◌, ◌%◌, ◌<◌, ◌≤◌, List, get_or, sym, ap, ◌∙◌, subst, ap₂, add-one, arith}
use mathlib.Core.Path.{fun_ext}
use native.Mathlib.Nat as Nat
use native.Mathlib.Decide.{dec_lt}
use Rattle.algebra.specs.Field.{Field}
use Rattle.algebra.proofs.Ring
use Rattle.polynomials.specs.Sequence.{sum}
use Rattle.polynomials.specs.Polynomial.{Polynomial, zero_polynomial, one_polynomial, monomial, plus, negative, times}
use Rattle.polynomials.specs.Words.{Digits, element_zero, from_word, to_word}
use Rattle.polynomials.proofs.Coefficients.{coefficient_times_sum, times_vanishes}
use Rattle.polynomials.proofs.Ring.{polynomial_ring}
use Rattle.byte_polys.specs.ByteField.{number}
use Rattle.byte_polys.specs.Steps.{Below, ZeroFrom, Added, products}
use Rattle.byte_polys.specs.Bytes.{Modulo, below_byte, coefficient_byte, element_mod, element_neg, poly_is, bytes_zero, number_is}
use Rattle.byte_polys.proofs.Adding.{added_below, sums_below, added_poly}
use Rattle.byte_polys.proofs.Dividing.{monomial_negative}
use Rattle.byte_polys.proofs.Zeros.{Zeros}

module _ {K : Type 0} {𝓚 : Field K} {d : Digits 𝓚} {p : ℕ} (L : Modulo 𝓚 d p) where
  -- zeros are below p
  pub zeros_below : {xs : List ℕ} → Zeros xs → Below p xs
  zeros_below z i = let e = z.each i in let s = L.positive in omega arith

  -- and their number is that of the polynomial 0
  pub zeros_number : (xs : List ℕ) → Zeros xs → number xs ≡ to_word 𝓚 d (zero_polynomial 𝓚)
  zeros_number xs z = number_is L xs (zero_polynomial 𝓚) (zeros_below z) (bytes_zero L xs z.each)

  -- once a polynomial is that polynomial
  one_multiple : (f : Polynomial 𝓚) → times 𝓚 (monomial 𝓚 (d.element 1) 0) f ≡ f
  unfolding one_polynomial
  one_multiple f = ap (λ c. times 𝓚 (monomial 𝓚 c 0) f) L.one ∙ Ring.one-mul (polynomial_ring 𝓚) f

  -- adding b adds its polynomial
  pub sum_poly : {xs b ys : List ℕ} → Added p 1 0 8 xs b ys → Below 256 xs → ZeroFrom 8 xs → Below 256 b → ZeroFrom 8 b
      → from_word 𝓚 d (number ys) ≡ plus 𝓚 (from_word 𝓚 d (number xs)) (from_word 𝓚 d (number b))
  sum_poly {xs} {b} a hx zx hb z = added_poly L a (sums_below L.positive a zx) hx hb z ∙ ap (plus 𝓚 (from_word 𝓚 d (number xs))) (one_multiple _)

  -- adding p − 1 times b takes its polynomial away
  pub difference_poly : {xs b ys : List ℕ} → Added p (p - 1) 0 8 xs b ys → Below 256 xs → ZeroFrom 8 xs → Below 256 b → ZeroFrom 8 b
      → from_word 𝓚 d (number ys) ≡ plus 𝓚 (from_word 𝓚 d (number xs)) (negative 𝓚 (from_word 𝓚 d (number b)))
  difference_poly {xs} {b} a hx zx hb z =
      added_poly L a (sums_below L.positive a zx) hx hb z
      ∙ ap (plus 𝓚 (from_word 𝓚 d (number xs)))
      (ap (λ c. times 𝓚 (monomial 𝓚 c 0) (from_word 𝓚 d (number b))) (element_neg L 1 L.positive)
      ∙ ap (λ m. times 𝓚 m (from_word 𝓚 d (number b))) (monomial_negative L (d.element 1) 0)
      ∙ Ring.neg_mul (polynomial_ring 𝓚) _ _
      ∙ ap (negative 𝓚) (one_multiple _))

  -- adding c times b to zeros gives c times its polynomial
  pub multiple_poly : {c : ℕ} {xs b ys : List ℕ} → Added p c 0 8 xs b ys → Zeros xs → Below 256 b → ZeroFrom 8 b
      → from_word 𝓚 d (number ys) ≡ times 𝓚 (monomial 𝓚 (d.element c) 0) (from_word 𝓚 d (number b))
  multiple_poly {c} {xs} {b} a hx hb z =
      added_poly L a (added_below L.positive a (zeros_below hx)) (below_byte L xs (zeros_below hx)) hb z ∙ ap (λ f. plus 𝓚 f (times 𝓚 (monomial 𝓚 (d.element c) 0) (from_word 𝓚 d (number b)))) (bytes_zero L xs hx.each) ∙ Ring.zero-add (polynomial_ring 𝓚) _

  -- and once b, its polynomial
  pub reduced_poly : {xs b ys : List ℕ} → Added p 1 0 8 xs b ys → Zeros xs → Below 256 b → ZeroFrom 8 b → from_word 𝓚 d (number ys) ≡ from_word 𝓚 d (number b)
  reduced_poly a hx hb z = multiple_poly a hx hb z ∙ one_multiple _

  -- a sum with its last element apart
  sum_last : (n : ℕ) (f : ℕ → K) → sum 𝓚.ring (suc n) f ≡ 𝓚.ring.add (sum 𝓚.ring n f) (f n)
  unfolding sum
  sum_last zero f = Ring.add_comm 𝓚.ring (f 0) 𝓚.ring.zero
  sum_last (suc n) f = ap (𝓚.ring.add (f 0)) (sum_last n (λ i. f (suc i))) ∙ sym (Ring.add_assoc 𝓚.ring _ _ _)

  -- a sum of products stands for the sum of the products
  products_sum : (a b : List ℕ) (k n : ℕ) → d.element (products a b k n) ≡ sum 𝓚.ring n (λ i. 𝓚.ring.mul (d.element (get_or a i 0)) (d.element (get_or b (k - i) 0)))
  unfolding products sum
  products_sum a b k zero = element_zero 𝓚 d
  products_sum a b k (suc n) = L.add (products a b k n) _ ∙ ap₂ 𝓚.ring.add (products_sum a b k n) (L.mul _ _) ∙ sym (sum_last n _)

  -- the columns of a product are below p
  pub product_below : (a b r : List ℕ) → ZeroFrom 15 r → ((k : ℕ) → k < 15 → get_or r k 0 ≡ products a b k (k + 1) % p) → Below p r
  product_below a b r end e i = go (dec_lt i 15)
    where
      go : Dec (i < 15) → get_or r i 0 < p
      go (yes l) = subst (λ x. x < p) (sym (e i l)) (Nat.mod-lt _ L.positive)
      go (no l) = let z = end i (omega arith) in let s = L.positive in omega arith

  -- and they are the coefficients of the product of the polynomials
  pub product_poly : (a b r : List ℕ) → ZeroFrom 15 r → ((k : ℕ) → k < 15 → get_or r k 0 ≡ products a b k (k + 1) % p)
      → Below 256 a → Below 256 b → ZeroFrom 8 a → ZeroFrom 8 b → from_word 𝓚 d (number r) ≡ times 𝓚 (from_word 𝓚 d (number a)) (from_word 𝓚 d (number b))
  product_poly a b r end e ha hb za zb = poly_is L r _ (product_below a b r end e) (λ i. go i (dec_lt i 15))
    where
      vanishes : (xs : List ℕ) → Below 256 xs → ZeroFrom 8 xs → (i : ℕ) → 8 ≤ i → (from_word 𝓚 d (number xs)).coefficient i ≡ 𝓚.ring.zero
      vanishes xs h z i l = coefficient_byte L xs h i ∙ ap d.element (z i l) ∙ element_zero 𝓚 d

      go : (i : ℕ) → Dec (i < 15) → d.element (get_or r i 0) ≡ (times 𝓚 (from_word 𝓚 d (number a)) (from_word 𝓚 d (number b))).coefficient i
      go i (yes l) =
          ap d.element (e i l) ∙ element_mod L _ ∙ ap (λ n. d.element (products a b i n)) (add-one i) ∙ products_sum a b i (suc i)
          ∙ ap (sum 𝓚.ring (suc i)) (fun_ext (λ j. ap₂ 𝓚.ring.mul (sym (coefficient_byte L a ha j)) (sym (coefficient_byte L b hb (i - j)))))
          ∙ sym (coefficient_times_sum 𝓚 _ _ i)
      go i (no l) =
          ap d.element (end i (omega arith)) ∙ element_zero 𝓚 d
          ∙ sym (times_vanishes 𝓚 8 8 _ _ (vanishes a ha za) (vanishes b hb zb) i (omega arith))
