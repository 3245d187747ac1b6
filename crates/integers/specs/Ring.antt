-- The whole numbers, negative ones too, are a commutative ring: mathlib's `CommRing`, with the usual sum, product and
-- negation. The library has the laws of the sum and that the product commutes; the rest is proved here. Assumes nothing.
use Rattle.std.specs.Prelude.{◌≡◌, ℕ, zero, suc, ℤ, pos, negsuc, ◌+ℤ◌, ◌*ℤ◌, neg_ℤ, refl}
use Rattle.std.proofs.Common.{sym, ap, ◌∙◌}
use mathlib.Mathlib.Algebra.Ring.Defs.{CommRing}
use Rattle.std.proofs.Math.Nat as Nat
use Rattle.std.proofs.Math.IntN.{ℤ_set, neg_ℤ-neg_ℤ, neg_ℤ-+ℤ, +ℤ_assoc, +ℤ_comm, +ℤ_idl, +ℤ_idr, +ℤ_invl, *ℤ_comm, one, *ℤ-one, *ℤ-zero, zero-*ℤ, suc_ℤ-*ℤ}

-- a negation moves out of a product
pub mul_neg : (a b : ℤ) → a *ℤ neg_ℤ b ≡ neg_ℤ (a *ℤ b)
mul_neg (pos a) (pos zero) = rw Nat.mul-zero
mul_neg (pos a) (pos (suc b)) = refl
mul_neg (pos a) (negsuc b) = sym (neg_ℤ-neg_ℤ (pos a *ℤ pos (suc b)))
mul_neg (negsuc a) (pos zero) = rw Nat.mul-zero
mul_neg (negsuc a) (pos (suc b)) = sym (neg_ℤ-neg_ℤ (negsuc a *ℤ negsuc b))
mul_neg (negsuc a) (negsuc b) = refl

pub neg_mul : (a b : ℤ) → neg_ℤ a *ℤ b ≡ neg_ℤ (a *ℤ b)
neg_mul a b = *ℤ_comm (neg_ℤ a) b ∙ mul_neg b a ∙ ap neg_ℤ (*ℤ_comm b a)

-- a negative number is the negation of a positive one, so a law of products is proved for numbers from 0 on first
mul_assoc_pos : (a b c : ℕ) → (pos a *ℤ pos b) *ℤ pos c ≡ pos a *ℤ (pos b *ℤ pos c)
mul_assoc_pos a b c = ap pos (Nat.mul_assoc a b c)

mul_assoc_third : (a b : ℕ) (c : ℤ) → (pos a *ℤ pos b) *ℤ c ≡ pos a *ℤ (pos b *ℤ c)
mul_assoc_third a b (pos c) = mul_assoc_pos a b c
mul_assoc_third a b (negsuc c) =
    ap neg_ℤ (mul_assoc_pos a b (suc c)) ∙ sym (mul_neg (pos a) (pos b *ℤ pos (suc c)))

mul_assoc_second : (a : ℕ) (b c : ℤ) → (pos a *ℤ b) *ℤ c ≡ pos a *ℤ (b *ℤ c)
mul_assoc_second a (pos b) c = mul_assoc_third a b c
mul_assoc_second a (negsuc b) c =
    neg_mul (pos a *ℤ pos (suc b)) c ∙ ap neg_ℤ (mul_assoc_third a (suc b) c) ∙ sym (mul_neg (pos a) (pos (suc b) *ℤ c)) ∙ ap (λ x. pos a *ℤ x) (sym (neg_mul (pos (suc b)) c))

-- the product is associative
pub mul_assoc : (a b c : ℤ) → (a *ℤ b) *ℤ c ≡ a *ℤ (b *ℤ c)
mul_assoc (pos a) b c = mul_assoc_second a b c
mul_assoc (negsuc a) b c =
    ap (λ x. x *ℤ c) (neg_mul (pos (suc a)) b) ∙ neg_mul (pos (suc a) *ℤ b) c ∙ ap neg_ℤ (mul_assoc_second (suc a) b c) ∙ sym (neg_mul (pos (suc a)) (b *ℤ c))

-- (a + b) + (c + d) and (a + c) + (b + d)
four : (a b c d : ℤ) → (a +ℤ b) +ℤ (c +ℤ d) ≡ (a +ℤ c) +ℤ (b +ℤ d)
four a b c d =
    +ℤ_assoc a b (c +ℤ d) ∙ ap (λ x. a +ℤ x) (sym (+ℤ_assoc b c d) ∙ ap (λ x. x +ℤ d) (+ℤ_comm b c) ∙ +ℤ_assoc c b d) ∙ sym (+ℤ_assoc a c (b +ℤ d))

mul_add_pos : (a : ℕ) (b c : ℤ) → pos a *ℤ (b +ℤ c) ≡ pos a *ℤ b +ℤ pos a *ℤ c
mul_add_pos zero b c = zero-*ℤ (b +ℤ c) ∙ sym (ap (λ x. x +ℤ pos zero *ℤ c) (zero-*ℤ b) ∙ ap (λ x. pos zero +ℤ x) (zero-*ℤ c))
mul_add_pos (suc a) b c =
    suc_ℤ-*ℤ (pos a) (b +ℤ c) ∙ ap (λ x. x +ℤ (b +ℤ c)) (mul_add_pos a b c) ∙ four (pos a *ℤ b) (pos a *ℤ c) b c ∙ sym (ap (λ x. x +ℤ pos (suc a) *ℤ c) (suc_ℤ-*ℤ (pos a) b) ∙ ap (λ x. (pos a *ℤ b +ℤ b) +ℤ x) (suc_ℤ-*ℤ (pos a) c))

-- a product with a sum is a sum of products
pub mul_add : (a b c : ℤ) → a *ℤ (b +ℤ c) ≡ a *ℤ b +ℤ a *ℤ c
mul_add (pos a) b c = mul_add_pos a b c
mul_add (negsuc a) b c =
    neg_mul (pos (suc a)) (b +ℤ c) ∙ ap neg_ℤ (mul_add_pos (suc a) b c) ∙ neg_ℤ-+ℤ (pos (suc a) *ℤ b) (pos (suc a) *ℤ c) ∙ sym (ap (λ x. x +ℤ negsuc a *ℤ c) (neg_mul (pos (suc a)) b) ∙ ap (λ x. neg_ℤ (pos (suc a) *ℤ b) +ℤ x) (neg_mul (pos (suc a)) c))

pub add_mul : (a b c : ℤ) → (a +ℤ b) *ℤ c ≡ a *ℤ c +ℤ b *ℤ c
add_mul a b c = *ℤ_comm (a +ℤ b) c ∙ mul_add c a b ∙ ap (λ x. x +ℤ c *ℤ b) (*ℤ_comm c a) ∙ ap (λ x. a *ℤ c +ℤ x) (*ℤ_comm c b)

-- 1 times a number is the number
pub mul-one : (a : ℤ) → a *ℤ pos 1 ≡ a
unfolding one
mul-one a = *ℤ-one a

pub one-mul : (a : ℤ) → pos 1 *ℤ a ≡ a
one-mul a = *ℤ_comm (pos 1) a ∙ mul-one a

-- the ring of whole numbers
abbrev pub ring : CommRing ℤ
ring = record {
  add = ◌+ℤ◌;
  mul = ◌*ℤ◌;
  zero = pos 0;
  neg = neg_ℤ;
  one = pos 1;
  is_comm_ring = record {
    is_ring = record {
      is_semiring = record {
        is_non_unital_semiring = record {
          is_non_unital_non_assoc_semiring = record {
            is_add_comm_monoid = record {
              is_add_monoid = record {
                is_add_semigroup = record { is_set = ℤ_set; add_assoc = +ℤ_assoc };
                zero-add = +ℤ_idl;
                add-zero = +ℤ_idr;
              };
              add_comm = +ℤ_comm;
            };
            left_distrib = mul_add;
            right_distrib = add_mul;
            zero-mul = zero-*ℤ;
            mul-zero = *ℤ-zero;
          };
          mul_assoc = mul_assoc;
        };
        one-mul = one-mul;
        mul-one = mul-one;
      };
      neg-add_cancel = +ℤ_invl;
    };
    mul_comm = *ℤ_comm;
  };
}
