-- One step of the search for an inverse modulo a prime. Assumes nothing.
use Rattle.std.proofs.Common.{◌≡◌, ℕ, ◌-◌, ◌*◌, ◌/◌, ◌%◌, ◌<◌, ◌≤◌, true, pos, sym, ap, ◌∙◌, arith}
use native.Mathlib.Nat as Nat
use native.Mathlib.Decide.{dec_le}
use Rattle.algebra.specs.Field.{Field}
use Rattle.algebra.proofs.Ring
use Rattle.polynomials.specs.Words.{Digits}
use Rattle.integers.specs.Moduli.{abs_non_unit}
use Rattle.polynomial_domains.specs.PrimeField.{prime_irreducible}
use Rattle.polynomial_domains.specs.Primes.{prime}
use Rattle.byte_polys.specs.Bytes.{Modulo, element_equal, element_mod, element_neg, element_p}

-- no number between 1 and p divides a prime p
pub prime_rest : (p k : ℕ) → prime p ≡ true → 2 ≤ k → k < p → 0 < p % k
prime_rest p k h low high = Nat.pos_of_ne-zero (λ z.
    let whole : k * (p / k) ≡ p = omega (arith, Nat.div-add-mod p k) in
    (prime_irreducible p h).no_product (pos k) (pos (p / k)) (ap pos (sym whole)) (abs_non_unit (pos k) low) (abs_non_unit (pos (p / k)) (large (p / k) whole (dec_le 2 (p / k)))))
  where
    large : (q : ℕ) → k * q ≡ p → Dec (2 ≤ q) → 2 ≤ q
    large q e (yes l) = l
    large q e (no l) =
        let small : q ≤ 1 = omega arith in
        absurd (omega (arith, Nat.mul-le-mul_left k small, Nat.mul-one k))

module _ {K : Type 0} {𝓚 : Field K} {d : Digits 𝓚} {p : ℕ} (L : Modulo 𝓚 d p) where
  -- the remainder of p by what is left is the new factor times a
  pub next_factor : (a left factor : ℕ) → 0 < left → left < p → (factor * a) % p ≡ left → (factor * (p - p / left) % p * a) % p ≡ p % left
  next_factor a left factor some below e =
      element_equal L _ _ (product ∙ sym rest) ∙ Nat.mod-eq_of_lt small
    where
      q : ℕ
      q = p / left

      small : p % left < p
      small = let m : p % left < left = Nat.mod-lt p some in omega arith

      rest : d.element (p % left) ≡ 𝓚.ring.neg (𝓚.ring.mul (d.element q) (d.element left))
      rest =
          Ring.neg_unique 𝓚.ring _ _
          (ap (λ x. 𝓚.ring.add x (d.element (p % left))) (sym (L.mul q left)) ∙ sym (L.add (q * left) (p % left)) ∙ ap d.element (Nat.div-add-mod' p left) ∙ element_p L)

      product : d.element (factor * (p - q) % p * a) ≡ 𝓚.ring.neg (𝓚.ring.mul (d.element q) (d.element left))
      product =
          L.mul (factor * (p - q) % p) a
          ∙ ap (λ x. 𝓚.ring.mul x (d.element a)) (element_mod L (factor * (p - q)) ∙ L.mul factor (p - q) ∙ ap (𝓚.ring.mul (d.element factor)) (element_neg L q (Nat.div-le_self p left)))
          ∙ simp (Ring.mul_neg 𝓚.ring, Ring.neg_mul 𝓚.ring, Ring.mul_assoc 𝓚.ring, Ring.mul_comm 𝓚.ring, Ring.mul_left_comm 𝓚.ring)
          (ap 𝓚.ring.neg (sym (Ring.mul_assoc 𝓚.ring _ _ _) ∙ ap (λ x. 𝓚.ring.mul x (d.element q)) (Ring.mul_comm 𝓚.ring _ _ ∙ sym (L.mul factor a) ∙ sym (element_mod L (factor * a)) ∙ ap d.element e)))
