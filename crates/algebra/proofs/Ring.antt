-- The laws of a commutative ring under short names, and what follows from them alone. Assumes nothing.
use mathlib.Core.Path.{◌≡◌, sym, ap, ◌∙◌}
use mathlib.Mathlib.Algebra.Ring.Defs.{CommRing}
use Rattle.algebra.specs.Divisibility.{minus}

module _ {R : Type 0} (𝓡 : CommRing R) where
  open 𝓡 use {add as ◌+◌, mul as ◌*◌, zero as 𝟘, neg, one as 𝟙}

  infixl 65 ◌+◌
  infixl 70 ◌*◌
  pub add_assoc : (a b c : R) → (a + b) + c ≡ a + (b + c)
  add_assoc = 𝓡.is_comm_ring.is_ring.is_semiring.is_non_unital_semiring.is_non_unital_non_assoc_semiring.is_add_comm_monoid.is_add_monoid.is_add_semigroup.add_assoc

  pub add_comm : (a b : R) → a + b ≡ b + a
  add_comm = 𝓡.is_comm_ring.is_ring.is_semiring.is_non_unital_semiring.is_non_unital_non_assoc_semiring.is_add_comm_monoid.add_comm

  pub add-zero : (a : R) → a + 𝟘 ≡ a
  add-zero = 𝓡.is_comm_ring.is_ring.is_semiring.is_non_unital_semiring.is_non_unital_non_assoc_semiring.is_add_comm_monoid.is_add_monoid.add-zero

  pub zero-add : (a : R) → 𝟘 + a ≡ a
  zero-add = 𝓡.is_comm_ring.is_ring.is_semiring.is_non_unital_semiring.is_non_unital_non_assoc_semiring.is_add_comm_monoid.is_add_monoid.zero-add

  pub neg_add : (a : R) → neg a + a ≡ 𝟘
  neg_add = 𝓡.is_comm_ring.is_ring.neg-add_cancel

  pub add_neg : (a : R) → a + neg a ≡ 𝟘
  add_neg a = add_comm a (neg a) ∙ neg_add a

  pub mul_assoc : (a b c : R) → (a * b) * c ≡ a * (b * c)
  mul_assoc = 𝓡.is_comm_ring.is_ring.is_semiring.is_non_unital_semiring.mul_assoc

  pub mul_comm : (a b : R) → a * b ≡ b * a
  mul_comm = 𝓡.is_comm_ring.mul_comm

  pub mul-one : (a : R) → a * 𝟙 ≡ a
  mul-one = 𝓡.is_comm_ring.is_ring.is_semiring.mul-one

  pub one-mul : (a : R) → 𝟙 * a ≡ a
  one-mul = 𝓡.is_comm_ring.is_ring.is_semiring.one-mul

  pub mul-zero : (a : R) → a * 𝟘 ≡ 𝟘
  mul-zero = 𝓡.is_comm_ring.is_ring.is_semiring.is_non_unital_semiring.is_non_unital_non_assoc_semiring.mul-zero

  pub zero-mul : (a : R) → 𝟘 * a ≡ 𝟘
  zero-mul = 𝓡.is_comm_ring.is_ring.is_semiring.is_non_unital_semiring.is_non_unital_non_assoc_semiring.zero-mul

  pub mul_add : (a b c : R) → a * (b + c) ≡ a * b + a * c
  mul_add = 𝓡.is_comm_ring.is_ring.is_semiring.is_non_unital_semiring.is_non_unital_non_assoc_semiring.left_distrib

  pub add_mul : (a b c : R) → (a + b) * c ≡ a * c + b * c
  add_mul = 𝓡.is_comm_ring.is_ring.is_semiring.is_non_unital_semiring.is_non_unital_non_assoc_semiring.right_distrib

  pub add_left_comm : (a b c : R) → a + (b + c) ≡ b + (a + c)
  add_left_comm a b c = sym (add_assoc a b c) ∙ ap (λ x. x + c) (add_comm a b) ∙ add_assoc b a c

  pub mul_left_comm : (a b c : R) → a * (b * c) ≡ b * (a * c)
  mul_left_comm a b c = sym (mul_assoc a b c) ∙ ap (λ x. x * c) (mul_comm a b) ∙ mul_assoc b a c

  -- equal after adding the same
  pub add_cancel : (a b c : R) → a + c ≡ b + c → a ≡ b
  add_cancel a b c e =
      let undo : (x : R) → (x + c) + neg c ≡ x = λ x. add_assoc x c (neg c) ∙ ap (λ y. x + y) (add_neg c) ∙ add-zero x in
      sym (undo a) ∙ ap (λ y. y + neg c) e ∙ undo b

  -- what is added to a to give 0 is −a
  pub neg_unique : (a b : R) → a + b ≡ 𝟘 → b ≡ neg a
  neg_unique a b e = add_cancel b (neg a) a (add_comm b a ∙ e ∙ sym (neg_add a))

  pub neg_neg : (a : R) → neg (neg a) ≡ a
  neg_neg a = sym (neg_unique (neg a) a (neg_add a))

  pub neg_zero : neg 𝟘 ≡ 𝟘
  neg_zero = sym (neg_unique 𝟘 𝟘 (add-zero 𝟘))

  pub mul_neg : (a b : R) → a * neg b ≡ neg (a * b)
  mul_neg a b = neg_unique (a * b) (a * neg b) (sym (mul_add a b (neg b)) ∙ ap (λ x. a * x) (add_neg b) ∙ mul-zero a)

  pub neg_mul : (a b : R) → neg a * b ≡ neg (a * b)
  neg_mul a b = mul_comm (neg a) b ∙ mul_neg b a ∙ ap neg (mul_comm b a)

  pub neg_sum : (a b : R) → neg (a + b) ≡ neg a + neg b
  neg_sum a b = sym (neg_unique (a + b) (neg a + neg b) (four ∙ ap (λ x. x + (b + neg b)) (add_neg a) ∙ zero-add (b + neg b) ∙ add_neg b))
    where
      four : (a + b) + (neg a + neg b) ≡ (a + neg a) + (b + neg b)
      four = add_assoc a b (neg a + neg b) ∙ ap (λ x. a + x) (add_left_comm b (neg a) (neg b)) ∙ sym (add_assoc a (neg a) (b + neg b))

  -- moving a summand to the other side
  pub sub_eq : (a b c : R) → a ≡ b + c → minus 𝓡 a b ≡ c
  sub_eq a b c e = ap (λ x. x + neg b) (e ∙ add_comm b c) ∙ add_assoc c b (neg b) ∙ ap (λ x. c + x) (add_neg b) ∙ add-zero c

  pub eq_sub : (a b c : R) → minus 𝓡 a b ≡ c → a ≡ b + c
  eq_sub a b c e = sym (add-zero a) ∙ ap (λ x. a + x) (sym (neg_add b)) ∙ sym (add_assoc a (neg b) b) ∙ ap (λ x. x + b) e ∙ add_comm c b

  pub sub_self : (a : R) → minus 𝓡 a a ≡ 𝟘
  sub_self a = add_neg a

  pub sub_zero_eq : (a b : R) → minus 𝓡 a b ≡ 𝟘 → a ≡ b
  sub_zero_eq a b e = eq_sub a b 𝟘 e ∙ add-zero b
