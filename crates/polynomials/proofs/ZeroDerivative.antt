-- Over a perfect field of characteristic p, a polynomial whose derivative is 0 is a p-th power. Assumes nothing.
use mathlib.Core.Path.{◌≡◌, sym, ap, ap₂, ◌∙◌, subst}
use Prim.Native.Nat.{ℕ, zero, suc, ◌+◌, ◌<◌}
use native.Mathlib.Nat.{mul-zero, mul-one, add-suc}
use native.Mathlib.Omega.{arith}
use Rattle.algebra.specs.Field.{Field}
use Rattle.algebra.proofs.Ring
use Rattle.polynomials.specs.Sequence.{Vanishes, multiple}
use Rattle.polynomials.specs.Polynomial.{Polynomial, polynomial, zero_polynomial, monomial, plus, times, derivative}
use Rattle.polynomials.specs.Perfect.{power, Perfect}
use Rattle.polynomials.proofs.Multiple.{multiple_plus}
use Rattle.polynomials.proofs.Power.{power_zero, power_one, power_product}
use Rattle.polynomials.proofs.Frobenius.{power_sum}
use Rattle.polynomials.proofs.Coefficients.{coefficient_zero, coefficient_polynomial, coefficient_derivative}
use Rattle.polynomials.proofs.Ring.{polynomial_ring}
use Rattle.polynomials.proofs.Degree.{vanishes_zero}
use Rattle.polynomials.proofs.Monomials.{monomial_power, split}
use Rattle.polynomials.proofs.Characteristic.{polynomial_characteristic}

module _ {K : Type 0} (𝓚 : Field K) (P : Perfect 𝓚) where
  open 𝓚.ring use {add as ◌⊕◌, zero as 𝟘, one as 𝟙}

  infixl 65 ◌⊕◌
  -- the coefficients of f from x^p on
  upper : (n : ℕ) (f : Polynomial 𝓚) → Vanishes 𝓚.ring f.coefficient (suc n) → Polynomial 𝓚
  upper n f v = polynomial 𝓚 (λ i. f.coefficient (P.p + i)) n (λ i h. v (P.p + i) (omega (arith, P.characteristic.positive)))

  -- all coefficients of the derivative are 0
  abbrev Flat : Polynomial 𝓚 → Type 0
  Flat f = (i : ℕ) → multiple 𝓚.ring (suc i) (f.coefficient (suc i)) ≡ 𝟘

  -- their derivative is 0 too,
  upper_flat : (n : ℕ) (f : Polynomial 𝓚) (v : Vanishes 𝓚.ring f.coefficient (suc n)) → Flat f → Flat (upper n f v)
  unfolding upper polynomial
  upper_flat n f v d i =
      let x = f.coefficient (P.p + suc i) in
      sym (Ring.zero-add 𝓚.ring (multiple 𝓚.ring (suc i) x))
      ∙ ap (λ y. y ⊕ multiple 𝓚.ring (suc i) x) (sym (P.characteristic.vanishes x))
      ∙ sym (multiple_plus 𝓚.ring P.p (suc i) x)
      ∙ subst (λ k. multiple 𝓚.ring k (f.coefficient k) ≡ 𝟘) (sym (add-suc P.p i)) (d (P.p + i))

  -- and they are fewer
  upper_vanishes : (n : ℕ) (f : Polynomial 𝓚) (v : Vanishes 𝓚.ring f.coefficient (suc n)) → Vanishes 𝓚.ring (upper n f v).coefficient n
  unfolding upper polynomial
  upper_vanishes n f v i h = v (P.p + i) (omega (arith, P.characteristic.positive))

  -- from a p-th root of the coefficients from x^p on to one of the whole
  power_upper : (n : ℕ) (f k : Polynomial 𝓚) (v : Vanishes 𝓚.ring f.coefficient (suc n)) → Flat f → power (polynomial_ring 𝓚) k P.p ≡ upper n f v
      → power (polynomial_ring 𝓚) (plus 𝓚 (monomial 𝓚 (P.root (f.coefficient 0)).0 0) (times 𝓚 (monomial 𝓚 𝟙 1) k)) P.p ≡ f
  unfolding upper
  power_upper n f k v d e =
      power_sum (polynomial_ring 𝓚) P.p (polynomial_characteristic 𝓚 P.p P.characteristic) _ _
      ∙ ap₂ (plus 𝓚) constant later
      ∙ split 𝓚 P.p f (upper n f v) P.characteristic.positive between (coefficient_polynomial 𝓚 _ _ _)
    where
      constant : power (polynomial_ring 𝓚) (monomial 𝓚 (P.root (f.coefficient 0)).0 0) P.p ≡ monomial 𝓚 (f.coefficient 0) 0
      constant = monomial_power 𝓚 (P.root (f.coefficient 0)).0 0 P.p ∙ ap₂ (monomial 𝓚) (P.root (f.coefficient 0)).1 (mul-zero P.p)

      later : power (polynomial_ring 𝓚) (times 𝓚 (monomial 𝓚 𝟙 1) k) P.p ≡ times 𝓚 (monomial 𝓚 𝟙 P.p) (upper n f v)
      later =
          power_product (polynomial_ring 𝓚) (monomial 𝓚 𝟙 1) k P.p
          ∙ ap₂ (times 𝓚) (monomial_power 𝓚 𝟙 1 P.p ∙ ap₂ (monomial 𝓚) (power_one 𝓚.ring P.p) (mul-one P.p)) e

      between : (i : ℕ) → suc i < P.p → f.coefficient (suc i) ≡ 𝟘
      between i h = P.characteristic.least (suc i) (f.coefficient (suc i)) (omega arith) h (d i)

  -- a root, by its first coefficient and then the others
  flat_power : (n : ℕ) (f : Polynomial 𝓚) → Vanishes 𝓚.ring f.coefficient n → Flat f → (h : Polynomial 𝓚) × (power (polynomial_ring 𝓚) h P.p ≡ f)
  flat_power zero f v d = (zero_polynomial 𝓚, power_zero (polynomial_ring 𝓚) P.p P.characteristic.positive ∙ sym (vanishes_zero 𝓚 f v))
  flat_power (suc n) f v d =
      let (k, e) = flat_power n (upper n f v) (upper_vanishes n f v) (upper_flat n f v d) in
      (plus 𝓚 (monomial 𝓚 (P.root (f.coefficient 0)).0 0) (times 𝓚 (monomial 𝓚 𝟙 1) k), power_upper n f k v d e)

  -- a polynomial whose derivative is 0 is a p-th power
  pub zero_derivative_power : (f : Polynomial 𝓚) → derivative 𝓚 f ≡ zero_polynomial 𝓚 → (h : Polynomial 𝓚) × (power (polynomial_ring 𝓚) h P.p ≡ f)
  zero_derivative_power f d =
      flat_power f.bound f f.beyond
      (λ i. sym (coefficient_derivative 𝓚 f i) ∙ ap (λ (q : Polynomial 𝓚). q.coefficient i) d ∙ coefficient_zero 𝓚 i)
