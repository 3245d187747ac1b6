-- Divisibility in a commutative ring: it is reflexive and transitive, and what divides two elements divides
-- their sums, differences and multiples. Assumes nothing.
use mathlib.Core.Path.{◌≡◌, refl, sym, ap, ◌∙◌}
use mathlib.Mathlib.Algebra.Ring.Defs.{CommRing}
use Rattle.algebra.specs.Divisibility.{minus, Divides, IsUnit, Coprime, Squarefree}
use Rattle.algebra.proofs.Ring.{mul_assoc, mul_comm, mul_left_comm, mul-one, one-mul, mul-zero, mul_add, mul_neg, eq_sub}

module _ {R : Type 0} (𝓡 : CommRing R) where
  open 𝓡 use {add as ◌+◌, mul as ◌*◌, zero as 𝟘, neg, one as 𝟙}

  infixl 65 ◌+◌
  infixl 70 ◌*◌
  infix 50 ◌∣◌
  abbrev ◌∣◌ : R → R → Type 0
  a ∣ b = Divides 𝓡 a b

  pub divides_self : (a : R) → a ∣ a
  divides_self a = (𝟙, mul-one 𝓡 a)

  pub divides_zero : (a : R) → a ∣ 𝟘
  divides_zero a = (𝟘, mul-zero 𝓡 a)

  pub one_divides : (a : R) → 𝟙 ∣ a
  one_divides a = (a, one-mul 𝓡 a)

  pub divides_trans : {a b c : R} → a ∣ b → b ∣ c → a ∣ c
  divides_trans {a} p q = (p.0 * q.0, sym (mul_assoc 𝓡 a p.0 q.0) ∙ ap (λ x. x * q.0) p.1 ∙ q.1)

  -- the same of equal elements
  pub divides_eq : {a b c : R} → a ∣ b → b ≡ c → a ∣ c
  divides_eq p e = (p.0, p.1 ∙ e)

  pub divides_left : (a b : R) → a ∣ a * b
  divides_left a b = (b, refl)

  pub divides_right : (a b : R) → b ∣ a * b
  divides_right a b = (a, mul_comm 𝓡 b a)

  pub divides_mul : {a b : R} (c : R) → a ∣ b → a ∣ b * c
  divides_mul {a} {b} c p = divides_trans p (divides_left b c)

  pub divides_mul_left : {a b : R} (c : R) → a ∣ b → a ∣ c * b
  divides_mul_left {a} {b} c p = divides_trans p (divides_right c b)

  pub divides_add : {a b c : R} → a ∣ b → a ∣ c → a ∣ b + c
  divides_add {a} {b} p q = (p.0 + q.0, mul_add 𝓡 a p.0 q.0 ∙ ap (λ x. x + a * q.0) p.1 ∙ ap (λ x. b + x) q.1)

  pub divides_neg : {a b : R} → a ∣ b → a ∣ neg b
  divides_neg {a} p = (neg p.0, mul_neg 𝓡 a p.0 ∙ ap neg p.1)

  pub divides_sub : {a b c : R} → a ∣ b → a ∣ c → a ∣ minus 𝓡 b c
  divides_sub p q = divides_add p (divides_neg q)

  -- what divides a difference and its second part divides the first
  pub divides_back : {a b c : R} → a ∣ minus 𝓡 b c → a ∣ c → a ∣ b
  divides_back {a} {b} {c} p q = divides_eq (divides_add q p) (sym (eq_sub 𝓡 b c (minus 𝓡 b c) refl))

  -- factors of both sides divide the products
  pub divides_product : {a b c d : R} → a ∣ b → c ∣ d → a * c ∣ b * d
  divides_product {a} {b} {c} {d} p q =
      (p.0 * q.0, shuffle p.0 q.0 ∙ ap (λ x. x * (c * q.0)) p.1 ∙ ap (λ x. b * x) q.1)
    where
      shuffle : (x y : R) → (a * c) * (x * y) ≡ (a * x) * (c * y)
      shuffle x y = simp (mul_assoc 𝓡, mul_left_comm 𝓡)

  -- a unit divides everything, and a divisor of a unit is a unit
  pub unit_divides : {u : R} (a : R) → IsUnit 𝓡 u → u ∣ a
  unit_divides a p = divides_trans p (one_divides a)

  pub divisor_of_unit : {a u : R} → a ∣ u → IsUnit 𝓡 u → IsUnit 𝓡 a
  divisor_of_unit p q = divides_trans p q

  pub one_unit : IsUnit 𝓡 𝟙
  one_unit = divides_self 𝟙

  -- the inverse of a unit is one
  pub inverse_unit : {u : R} (p : IsUnit 𝓡 u) → IsUnit 𝓡 p.0
  inverse_unit {u} p = (u, mul_comm 𝓡 p.0 u ∙ p.1)

  pub unit_product : {u v : R} → IsUnit 𝓡 u → IsUnit 𝓡 v → IsUnit 𝓡 (u * v)
  unit_product p q = divides_eq (divides_product p q) (mul-one 𝓡 𝟙)

  -- a unit multiple is divided by its element, and divides it
  pub unit_multiple_divides : {u : R} (a : R) → IsUnit 𝓡 u → u * a ∣ a
  unit_multiple_divides {u} a p = (p.0, around ∙ ap (λ x. x * a) p.1 ∙ one-mul 𝓡 a)
    where
      around : (u * a) * p.0 ≡ (u * p.0) * a
      around = simp (mul_assoc 𝓡, mul_comm 𝓡)

  pub coprime_symmetric : {a b : R} → Coprime 𝓡 a b → Coprime 𝓡 b a
  coprime_symmetric h d p q = h d q p

  -- a divisor of a squarefree element is squarefree
  pub squarefree_divisor : {a b : R} → a ∣ b → Squarefree 𝓡 b → Squarefree 𝓡 a
  squarefree_divisor p h d q = h d (divides_trans q p)

  -- the two factors of a squarefree product are coprime
  pub squarefree_coprime : (a b : R) → Squarefree 𝓡 (a * b) → Coprime 𝓡 a b
  squarefree_coprime a b h d p q = h d (divides_product p q)
