-- Congruence modulo m: an equivalence that sums, differences and products keep. Assumes nothing.
use mathlib.Core.Path.{◌≡◌, refl, sym, ap, ◌∙◌}
use mathlib.Mathlib.Algebra.Ring.Defs.{CommRing}
use Rattle.algebra.specs.Divisibility.{minus, Divides, Congruent}
use Rattle.algebra.proofs.Ring.{add_assoc, add_comm, add_left_comm, zero-add, neg_add, neg_neg, neg_sum, mul_comm, mul_add, mul_neg, sub_self}
use Rattle.algebra.proofs.Divides.{divides_zero, divides_eq, divides_trans, divides_add, divides_neg, divides_mul_left, divides_back}

module _ {R : Type 0} (𝓡 : CommRing R) where
  open 𝓡 use {add as ◌+◌, mul as ◌*◌, zero as 𝟘, neg, one as 𝟙}

  infixl 65 ◌+◌
  infixl 70 ◌*◌
  pub congruent_eq : {m a b : R} → a ≡ b → Congruent 𝓡 m a b
  congruent_eq {m} {a} {b} e = divides_eq 𝓡 (divides_zero 𝓡 m) (sym (ap (λ x. x + neg b) e ∙ sub_self 𝓡 b))

  pub congruent_self : {m : R} (a : R) → Congruent 𝓡 m a a
  congruent_self a = congruent_eq refl

  pub congruent_symmetric : {m a b : R} → Congruent 𝓡 m a b → Congruent 𝓡 m b a
  congruent_symmetric {m} {a} {b} p = divides_eq 𝓡 (divides_neg 𝓡 p) (neg_sum 𝓡 a (neg b) ∙ add_comm 𝓡 (neg a) (neg (neg b)) ∙ ap (λ x. x + neg a) (neg_neg 𝓡 b))

  pub congruent_trans : {m a b c : R} → Congruent 𝓡 m a b → Congruent 𝓡 m b c → Congruent 𝓡 m a c
  congruent_trans {m} {a} {b} {c} p q = divides_eq 𝓡 (divides_add 𝓡 p q) telescoped
    where
      telescoped : (a + neg b) + (b + neg c) ≡ a + neg c
      telescoped = add_assoc 𝓡 a (neg b) (b + neg c) ∙ ap (λ x. a + x) (sym (add_assoc 𝓡 (neg b) b (neg c)) ∙ ap (λ x. x + neg c) (neg_add 𝓡 b) ∙ zero-add 𝓡 (neg c))

  pub congruent_add : {m a b c d : R} → Congruent 𝓡 m a b → Congruent 𝓡 m c d → Congruent 𝓡 m (a + c) (b + d)
  congruent_add {m} {a} {b} {c} {d} p q = divides_eq 𝓡 (divides_add 𝓡 p q) shuffled
    where
      shuffled : (a + neg b) + (c + neg d) ≡ (a + c) + neg (b + d)
      shuffled = simp (neg_sum 𝓡, add_assoc 𝓡, add_left_comm 𝓡)

  pub congruent_neg : {m a b : R} → Congruent 𝓡 m a b → Congruent 𝓡 m (neg a) (neg b)
  congruent_neg {m} {a} {b} p = divides_eq 𝓡 (divides_neg 𝓡 p) (neg_sum 𝓡 a (neg b))

  pub congruent_sub : {m a b c d : R} → Congruent 𝓡 m a b → Congruent 𝓡 m c d → Congruent 𝓡 m (minus 𝓡 a c) (minus 𝓡 b d)
  congruent_sub p q = congruent_add p (congruent_neg q)

  pub congruent_mul : {m a b : R} (c : R) → Congruent 𝓡 m a b → Congruent 𝓡 m (c * a) (c * b)
  congruent_mul {m} {a} {b} c p = divides_eq 𝓡 (divides_mul_left 𝓡 c p) (mul_add 𝓡 c a (neg b) ∙ ap (λ x. c * a + x) (mul_neg 𝓡 c b))

  pub congruent_product : {m a b c d : R} → Congruent 𝓡 m a b → Congruent 𝓡 m c d → Congruent 𝓡 m (a * c) (b * d)
  congruent_product {m} {a} {b} {c} {d} p q =
      congruent_trans (congruent_mul a q) (congruent_trans (congruent_eq (mul_comm 𝓡 a d)) (congruent_trans (congruent_mul d p) (congruent_eq (mul_comm 𝓡 d b))))

  -- a divisor of the modulus keeps congruence
  pub congruent_divisor : {g m a b : R} → Divides 𝓡 g m → Congruent 𝓡 m a b → Congruent 𝓡 g a b
  congruent_divisor d p = divides_trans 𝓡 d p

  -- congruent elements have the same common divisors with the modulus
  pub congruent_divides : {m a b d : R} → Congruent 𝓡 m a b → Divides 𝓡 d m → Divides 𝓡 d b → Divides 𝓡 d a
  congruent_divides p q r = divides_back 𝓡 (divides_trans 𝓡 q p) r
