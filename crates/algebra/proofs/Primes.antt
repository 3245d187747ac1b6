-- What Bézout gives: coprime elements have multiples that add to 1, an irreducible that divides a product divides a
-- factor, and two elements have exactly one normal greatest common divisor. Assumes nothing.
use mathlib.Core.Path.{◌≡◌, refl, sym, ap, ◌∙◌, subst}
use mathlib.Core.Logic.{◌⊎◌, inl, inr, ◌≢◌}
use mathlib.Core.Bool.{true}
use Rattle.algebra.specs.Divisibility.{Divides, IsUnit, Irreducible, Coprime, GreatestCommonDivisor}
use Rattle.algebra.specs.Euclidean.{Euclidean, EuclideanLaws}
use Rattle.algebra.proofs.Ring.{mul_assoc, mul_comm, mul_left_comm, mul-one, one-mul, mul_add, add_mul, zero-mul}
use Rattle.algebra.proofs.Divides.{divides_self, divides_trans, divides_eq, divides_left, divides_mul_left, divides_add, divides_product, divisor_of_unit, one_unit, unit_multiple_divides, coprime_symmetric}
use Rattle.algebra.proofs.Bezout.{cancel, divisor_nonzero, unit_decided, Bezout, bezout, bezout_greatest}

module _ {R : Type 0} {E : Euclidean R} (L : EuclideanLaws E) where
  open E.ring use {add as ◌+◌, mul as ◌*◌, zero as 𝟘, one as 𝟙}

  infixl 65 ◌+◌
  infixl 70 ◌*◌
  infix 50 ◌∣◌
  abbrev ◌∣◌ : R → R → Type 0
  a ∣ b = Divides E.ring a b

  -- coprime elements have multiples that add to 1
  pub coprime_sum : (a b : R) → Coprime E.ring a b → (s : R) × (t : R) × (s * a + t * b ≡ 𝟙)
  coprime_sum a b h =
      let z = bezout L a b in
      let u : IsUnit E.ring z.gcd = h z.gcd z.divides_a z.divides_b in
      let i = u.0 in
      (i * z.left, i * z.right, factor z.left z.right i ∙ ap (λ x. i * x) (sym z.sum) ∙ mul_comm E.ring i z.gcd ∙ u.1)
    where
      factor : (s t i : R) → (i * s) * a + (i * t) * b ≡ i * (s * a + t * b)
      factor s t i = simp (mul_add E.ring, mul_assoc E.ring)

  -- and the other way round
  pub sum_coprime : (a b s t : R) → s * a + t * b ≡ 𝟙 → Coprime E.ring a b
  sum_coprime a b s t e d p q = divides_eq E.ring (divides_add E.ring (divides_mul_left E.ring s p) (divides_mul_left E.ring t q)) e

  -- what is coprime to one factor of a product that it divides, divides the other
  pub coprime_divides : (a b c : R) → Coprime E.ring a b → a ∣ b * c → a ∣ c
  coprime_divides a b c h p =
      let z = coprime_sum a b h in
      divides_eq E.ring (divides_add E.ring (divides_left E.ring a (z.0 * c)) (divides_mul_left E.ring z.1 p)) (spread z.0 z.1 ∙ ap (λ x. x * c) z.2 ∙ one-mul E.ring c)
    where
      spread : (s t : R) → a * (s * c) + t * (b * c) ≡ (s * a + t * b) * c
      spread s t = simp (add_mul E.ring, mul_assoc E.ring, mul_left_comm E.ring)

  -- coprime elements that divide an element: their product divides it
  pub coprime_product_divides : (a b c : R) → Coprime E.ring a b → a ∣ c → b ∣ c → a * b ∣ c
  coprime_product_divides a b c h p q =
      let r : b ∣ p.0 = coprime_divides b a p.0 (coprime_symmetric E.ring h) (divides_eq E.ring q (sym p.1)) in
      divides_eq E.ring (divides_product E.ring (divides_self E.ring a) r) p.1

  -- what is coprime to two elements is coprime to their product
  pub coprime_mul : (a b c : R) → Coprime E.ring a b → Coprime E.ring a c → Coprime E.ring a (b * c)
  coprime_mul a b c h k d p q =
      k d p (coprime_divides d b c (λ e r s. h e (divides_trans E.ring r p) s) q)

  -- an irreducible is coprime to an element or divides it
  pub irreducible_or : (p a : R) → Irreducible E.ring p → (p ∣ a) ⊎ Coprime E.ring p a
  irreducible_or p a h = by (unit_decided L z.gcd) (unit_decided L z.divides_a.0)
    where
      z : Bezout L p a
      z = bezout L p a

      k : R
      k = z.divides_a.0

      by : Dec (IsUnit E.ring z.gcd) → Dec (IsUnit E.ring z.divides_a.0) → (p ∣ a) ⊎ Coprime E.ring p a
      by (yes u) s = inr (λ d r t. divisor_of_unit E.ring ((bezout_greatest L z).greatest d r t) u)
      by (no n) (yes u) = inl (divides_trans E.ring (divides_eq E.ring (unit_multiple_back u) refl) z.divides_b)
        where
          unit_multiple_back : IsUnit E.ring z.divides_a.0 → p ∣ z.gcd
          unit_multiple_back u =
              (u.0, ap (λ x. x * u.0) (sym z.divides_a.1) ∙ mul_assoc E.ring z.gcd z.divides_a.0 u.0 ∙ ap (λ x. z.gcd * x) u.1 ∙ mul-one E.ring z.gcd)
      by (no n) (no s) = absurd (h.no_product z.gcd z.divides_a.0 (sym z.divides_a.1) n s)

  -- irreducible means prime: an irreducible that divides a product divides a factor
  pub irreducible_prime : (p a b : R) → Irreducible E.ring p → p ∣ a * b → (p ∣ a) ⊎ (p ∣ b)
  irreducible_prime p a b h d = elim (irreducible_or p a h) [ inl y ↦ inl y | inr c ↦ inr (coprime_divides p a b c d) ]

  -- elements that divide each other differ by a unit
  pub associates : (a b : R) → a ≢ 𝟘 → a ∣ b → b ∣ a → (u : R) × IsUnit E.ring u × (b ≡ u * a)
  associates a b ne p q = (p.0, (q.0, cancel L a (p.0 * q.0) 𝟙 ne around), sym p.1 ∙ mul_comm E.ring a p.0)
    where
      around : a * (p.0 * q.0) ≡ a * 𝟙
      around = sym (mul_assoc E.ring a p.0 q.0) ∙ ap (λ x. x * q.0) p.1 ∙ q.1 ∙ sym (mul-one E.ring a)

  -- normal elements that divide each other are equal
  pub normal_associates : (a b : R) → E.normal a ≡ true → E.normal b ≡ true → a ∣ b → b ∣ a → a ≡ b
  normal_associates a b na nb p q = by (E.equal a 𝟘)
    where
      by : Dec (a ≡ 𝟘) → a ≡ b
      by (yes z) = z ∙ sym (sym p.1 ∙ ap (λ x. x * p.0) z ∙ zero-mul E.ring p.0)
      by (no n) =
          let s = associates a b n p q in
          let e = one-mul E.ring a in
          sym e ∙ L.normal_unique a 𝟙 s.0 n (one_unit E.ring) s.1 (subst (λ x. E.normal x ≡ true) (sym e) na) (subst (λ x. E.normal x ≡ true) s.2 nb) ∙ sym s.2

  -- the normal unit is 1
  pub normal_unit : (a : R) → IsUnit E.ring a → E.normal a ≡ true → a ≡ 𝟙
  normal_unit a u n = normal_associates a 𝟙 n L.normal_one u (a, one-mul E.ring a)

  -- two elements have only one normal greatest common divisor
  pub normal_gcd_unique : (a b g h : R) → E.normal g ≡ true → E.normal h ≡ true → GreatestCommonDivisor E.ring a b g → GreatestCommonDivisor E.ring a b h → g ≡ h
  normal_gcd_unique a b g h ng nh p q =
      normal_associates g h ng nh (q.greatest g p.divides_left p.divides_right) (p.greatest h q.divides_left q.divides_right)

  -- and they have one, unless both are 0
  pub normal_gcd : (a b : R) → b ≢ 𝟘 → (g : R) × (E.normal g ≡ true) × GreatestCommonDivisor E.ring a b g
  normal_gcd a b ne =
      let z = bezout L a b in
      let n = L.normal_multiple z.gcd (divisor_nonzero L z.divides_b ne) in
      let down : n.0 * z.gcd ∣ z.gcd = unit_multiple_divides E.ring z.gcd n.1 in (
        n.0 * z.gcd,
        n.2,
        record {
          divides_left = divides_trans E.ring down z.divides_a;
          divides_right = divides_trans E.ring down z.divides_b;
          greatest = λ d p q. divides_mul_left E.ring n.0 ((bezout_greatest L z).greatest d p q);
        },
      )
