-- What division with remainder gives: units are known by their size, divisibility is decided, two elements have a
-- greatest common divisor that is a sum of multiples of the two (Bézout), and so an irreducible that divides a product
-- divides a factor. Everything is proved from `EuclideanLaws`. Assumes nothing.
use mathlib.Core.Path.{◌≡◌, refl, sym, ap, ◌∙◌, subst}
use mathlib.Core.Logic.{inl, inr, ◌≢◌, ◌↔◌}
use Prim.Native.Nat.{ℕ, zero, suc, ◌<◌, ◌≤◌}
use native.Mathlib.Omega.{arith}
use native.Mathlib.Decide.{ℕ_discrete}
use Rattle.algebra.specs.Divisibility.{minus, Divides, IsUnit, Squarefree, NoSquareDivides, GreatestCommonDivisor}
use Rattle.algebra.specs.Euclidean.{Euclidean, EuclideanLaws, Division}
use Rattle.algebra.proofs.Ring.{add_left_comm, add-zero, mul_assoc, mul_comm, one-mul, mul-zero, zero-mul, mul_add, add_mul, mul_neg, neg_mul, sub_eq, sub_zero_eq}
use Rattle.algebra.proofs.Divides.{divides_self, divides_zero, divides_eq, divides_mul_left, divides_add, divides_sub, one_divides}

module _ {R : Type 0} {E : Euclidean R} (L : EuclideanLaws E) where
  open E.ring use {add as ◌+◌, mul as ◌*◌, zero as 𝟘, neg, one as 𝟙}

  infixl 65 ◌+◌
  infixl 70 ◌*◌
  infix 50 ◌∣◌
  abbrev ◌∣◌ : R → R → Type 0
  a ∣ b = Divides E.ring a b

  -- a non-zero factor cancels
  pub cancel : (a b c : R) → a ≢ 𝟘 → a * b ≡ a * c → b ≡ c
  cancel a b c ne e = go (E.equal (minus E.ring b c) 𝟘)
    where
      gone : a * minus E.ring b c ≡ 𝟘
      gone = mul_add E.ring a b (neg c) ∙ ap (λ x. a * b + x) (mul_neg E.ring a c) ∙ sub_eq E.ring (a * b) (a * c) 𝟘 (e ∙ sym (add-zero E.ring (a * c)))

      go : Dec (minus E.ring b c ≡ 𝟘) → b ≡ c
      go (yes z) = sub_zero_eq E.ring b c z
      go (no n) = absurd (L.no_zero_divisors a (minus E.ring b c) ne n gone)

  -- a factor of a non-zero product is not 0
  pub factor_nonzero : (a b : R) → a * b ≢ 𝟘 → a ≢ 𝟘
  factor_nonzero a b ne z = ne (ap (λ x. x * b) z ∙ zero-mul E.ring b)

  -- a divisor of a non-zero element is not 0, and not larger
  pub divisor_nonzero : {a b : R} → a ∣ b → b ≢ 𝟘 → a ≢ 𝟘
  divisor_nonzero {a} p ne = factor_nonzero a p.0 (λ z. ne (sym p.1 ∙ z))

  pub divisor_size : {a b : R} → a ∣ b → b ≢ 𝟘 → E.size a ≤ E.size b
  divisor_size {a} p ne = subst (λ x. E.size a ≤ E.size x) p.1 (L.size_product a p.0 (λ z. ne (sym p.1 ∙ z)))

  pub unit_nonzero : {u : R} → IsUnit E.ring u → u ≢ 𝟘
  unit_nonzero p = divisor_nonzero p L.one_not_zero

  -- 0 is not a unit
  pub zero_no_unit : ¬ IsUnit E.ring 𝟘
  zero_no_unit p = unit_nonzero p refl

  -- a unit is as small as 1
  pub unit_size : {u : R} → IsUnit E.ring u → E.size u ≡ E.size 𝟙
  unit_size {u} p =
      let low : E.size 𝟙 ≤ E.size u = divisor_size (one_divides E.ring u) (unit_nonzero p) in
      let high : E.size u ≤ E.size 𝟙 = divisor_size p L.one_not_zero in
      omega arith

  -- and a non-zero element as small as 1 is a unit
  pub size_unit : (a : R) → a ≢ 𝟘 → E.size a ≡ E.size 𝟙 → IsUnit E.ring a
  size_unit a ne e = go (L.divide 𝟙 a ne)
    where
      none : (q r : R) (d : Division E 𝟙 a q r) → Dec (r ≡ 𝟘) → IsUnit E.ring a
      none q r d (yes z) = (q, mul_comm E.ring a q ∙ sym (add-zero E.ring (q * a)) ∙ ap (λ x. q * a + x) (sym z) ∙ sym d.sum)
      none q r d (no n) =
          let low : E.size 𝟙 ≤ E.size r = divisor_size (one_divides E.ring r) n in
          elim d.small [ inl z ↦ absurd (n z) | inr s ↦ absurd (omega arith) ]

      go : (q : R) × (r : R) × Division E 𝟙 a q r → IsUnit E.ring a
      go d = none d.0 d.1 d.2 (E.equal d.1 𝟘)

  -- being a unit is decided, by comparing sizes with that of 1
  pub unit_decided : (a : R) → Dec (IsUnit E.ring a)
  unit_decided a = go (E.equal a 𝟘) (ℕ_discrete (E.size a) (E.size 𝟙))
    where
      go : Dec (a ≡ 𝟘) → Dec (E.size a ≡ E.size 𝟙) → Dec (IsUnit E.ring a)
      go (yes z) s = no (λ p. unit_nonzero p z)
      go (no n) (yes s) = yes (size_unit a n s)
      go (no n) (no s) = no (λ p. s (unit_size p))

  -- so an element is squarefree exactly when no square of a non-unit divides it
  pub squarefree_iff_no_square : (a : R) → Squarefree E.ring a ↔ NoSquareDivides E.ring a
  squarefree_iff_no_square a = (
    λ s d p n. n (s d p),
    λ f d p. elim (unit_decided d) [ yes u ↦ u | no n ↦ absurd (f d p n) ],
  )

  -- what divides the divisor and the dividend divides the remainder, and the other way round
  pub divides_remainder : {a b q r d : R} → Division E a b q r → d ∣ a → d ∣ b → d ∣ r
  divides_remainder {a} {b} {q} {r} v p s = divides_eq E.ring (divides_sub E.ring p (divides_mul_left E.ring q s)) (sub_eq E.ring a (q * b) r v.sum)

  pub divides_dividend : {a b q r d : R} → Division E a b q r → d ∣ b → d ∣ r → d ∣ a
  divides_dividend {a} {b} {q} {r} v s t = divides_eq E.ring (divides_add E.ring (divides_mul_left E.ring q s) t) (sym v.sum)

  -- divisibility is decided: by a non-zero element, the remainder is 0
  pub divides_decided : (a b : R) → Dec (a ∣ b)
  divides_decided a b = by (E.equal a 𝟘)
    where
      at_zero : a ≡ 𝟘 → Dec (b ≡ 𝟘) → Dec (a ∣ b)
      at_zero z (yes e) = yes (𝟘, mul-zero E.ring a ∙ sym e)
      at_zero z (no n) = no (λ p. n (sym p.1 ∙ ap (λ x. x * p.0) z ∙ zero-mul E.ring p.0))

      at_rest : (q r : R) → Division E b a q r → a ≢ 𝟘 → Dec (r ≡ 𝟘) → Dec (a ∣ b)
      at_rest q r d ne (yes z) = yes (q, mul_comm E.ring a q ∙ sym (add-zero E.ring (q * a)) ∙ ap (λ x. q * a + x) (sym z) ∙ sym d.sum)
      at_rest q r d ne (no n) = no (λ p.
          let low : E.size a ≤ E.size r = divisor_size (divides_remainder d p (divides_self E.ring a)) n in
          elim d.small [ inl z ↦ n z | inr s ↦ omega arith ])

      by : Dec (a ≡ 𝟘) → Dec (a ∣ b)
      by (yes z) = at_zero z (E.equal b 𝟘)
      by (no n) = let d = L.divide b a n in at_rest d.0 d.1 d.2 n (E.equal d.1 𝟘)

  -- g is a greatest common divisor of a and b, and the sum of a multiple of a and one of b
  pub record Bezout (a b : R) : Type 0 where
    pub gcd : R
    pub left : R
    pub right : R
    pub sum : gcd ≡ left * a + right * b
    pub divides_a : gcd ∣ a
    pub divides_b : gcd ∣ b

  -- whatever divides a and b divides a sum of their multiples
  pub bezout_greatest : {a b : R} (z : Bezout a b) → GreatestCommonDivisor E.ring a b z.gcd
  bezout_greatest {a} {b} z = record {
    divides_left = z.divides_a;
    divides_right = z.divides_b;
    greatest = λ d p q. divides_eq E.ring (divides_add E.ring (divides_mul_left E.ring z.left p) (divides_mul_left E.ring z.right q)) (sym z.sum);
  }

  -- one division of Euclid's algorithm backwards
  bezout_step : (a b q r : R) → Division E a b q r → Bezout b r → Bezout a b
  bezout_step a b q r d z = record {
    gcd = z.gcd;
    left = z.right;
    right = minus E.ring z.left (z.right * q);
    sum = z.sum ∙ ap (λ x. z.left * b + z.right * x) (sym (sub_eq E.ring a (q * b) r d.sum)) ∙ shuffle;
    divides_a = divides_dividend d z.divides_a z.divides_b;
    divides_b = z.divides_a;
  }
    where
      shuffle : z.left * b + z.right * minus E.ring a (q * b) ≡ z.right * a + minus E.ring z.left (z.right * q) * b
      shuffle = simp (mul_add E.ring, add_mul E.ring, mul_neg E.ring, neg_mul E.ring, mul_assoc E.ring, add_left_comm E.ring)

  -- with nothing left, the last divisor is the answer
  bezout_end : (a : R) (b : R) → b ≡ 𝟘 → Bezout a b
  bezout_end a b z = record {
    gcd = a;
    left = 𝟙;
    right = 𝟘;
    sum = sym (ap (λ x. 𝟙 * a + x) (zero-mul E.ring b) ∙ add-zero E.ring (𝟙 * a) ∙ one-mul E.ring a);
    divides_a = divides_self E.ring a;
    divides_b = divides_eq E.ring (divides_zero E.ring a) (sym z);
  }

  bezout_next : (a b q r : R) → Division E a b q r → Dec (r ≡ 𝟘) → (E.size r < E.size b → Bezout b r) → Bezout a b
  bezout_next a b q r d (yes z) f = bezout_step a b q r d (bezout_end b r z)
  bezout_next a b q r d (no k) f = elim d.small [ inl z ↦ absurd (k z) | inr s ↦ bezout_step a b q r d (f s) ]

  bezout_by : (a b : R) → Dec (b ≡ 𝟘) → ((r : R) → E.size r < E.size b → Bezout b r) → Bezout a b
  bezout_by a b (yes z) f = bezout_end a b z
  bezout_by a b (no k) f = let d = L.divide a b k in bezout_next a b d.0 d.1 d.2 (E.equal d.1 𝟘) (f d.1)

  bezout_fuel : (n : ℕ) (a b : R) → E.size b < n → Bezout a b
  bezout_fuel zero a b h = absurd (omega arith)
  bezout_fuel (suc n) a b h = bezout_by a b (E.equal b 𝟘) (λ r s. bezout_fuel n b r (omega arith))

  -- every two elements have a greatest common divisor that is a sum of their multiples
  pub bezout : (a b : R) → Bezout a b
  bezout a b = bezout_fuel (suc (E.size b)) a b (omega arith)
