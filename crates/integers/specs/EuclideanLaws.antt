-- The whole numbers have division with remainder, no zero divisors, and exactly one positive multiple by a unit of every
-- number but 0: all that `EuclideanLaws` asks. Assumes nothing.
use Rattle.std.specs.Prelude.{◌≡◌, ℕ, zero, suc, ◌*◌, ◌≤◌, true, ◌≢◌, ℤ, pos, negsuc, ◌+ℤ◌, ◌*ℤ◌, neg_ℤ, unsigned_abs, refl}
use Rattle.std.proofs.Common.{sym, ap, ◌∙◌, subst, inr, arith}
use Rattle.std.proofs.Math.Nat as Nat
use Rattle.std.proofs.Math.IntN.{neg_ℤ-neg_ℤ, *ℤ_comm, *ℤ-zero}
use Rattle.algebra.specs.Divisibility.{IsUnit}
use Rattle.algebra.specs.Euclidean.{Division, EuclideanLaws}
use Rattle.integers.specs.Ring.{ring, mul_neg, neg_mul}
use Rattle.integers.specs.Integers.{integers, positive, wrapped}
use Rattle.integers.specs.Sizes.{abs_mul, abs_nonzero, nonzero, positive_abs, positive_nonzero, abs_positive}
use Rattle.integers.specs.Remainders.{wrapped_sum, wrapped_below}

-- a product is 0 only if a factor is
no_zero_divisors : (a b : ℤ) → a ≢ pos 0 → b ≢ pos 0 → a *ℤ b ≢ pos 0
no_zero_divisors a b na nb e =
    omega (arith, Nat.mul-pos (abs_nonzero a na) (abs_nonzero b nb), sym (abs_mul a b) ∙ ap unsigned_abs e)

-- k times c is −k times −c
both_neg : (k : ℕ) (c : ℤ) → pos (suc k) *ℤ c ≡ neg_ℤ c *ℤ negsuc k
both_neg k c = *ℤ_comm (pos (suc k)) c ∙ sym (mul_neg (neg_ℤ c) (pos (suc k)) ∙ ap neg_ℤ (neg_mul c (pos (suc k))) ∙ neg_ℤ-neg_ℤ (c *ℤ pos (suc k)))

-- every number divided by a number but 0 leaves a remainder smaller than the divisor
divide : (a b : ℤ) → b ≢ pos 0 → (q : ℤ) × (r : ℤ) × Division integers.euclidean a b q r
divide a (pos k) ne =
    let h = abs_nonzero (pos k) ne in
    let s = wrapped_sum k h a in (
      s.0,
      pos (wrapped k a),
      record {
        sum = s.1 ∙ ap (λ x. x +ℤ pos (wrapped k a)) (*ℤ_comm (pos k) s.0);
        small = inr (wrapped_below k h a);
      },
    )
divide a (negsuc k) ne =
    let h = abs_nonzero (negsuc k) ne in
    let s = wrapped_sum (suc k) h a in (
      neg_ℤ s.0,
      pos (wrapped (suc k) a),
      record {
        sum = s.1 ∙ ap (λ x. x +ℤ pos (wrapped (suc k) a)) (both_neg k s.0);
        small = inr (wrapped_below (suc k) h a);
      },
    )

-- a product that is not 0 is not smaller than its factors
size_product : (a b : ℤ) → a *ℤ b ≢ pos 0 → unsigned_abs a ≤ unsigned_abs (a *ℤ b)
size_product a b ne =
    rw (abs_mul a b) (Nat.le-mul_of_pos_right (unsigned_abs a) (abs_nonzero b (λ e. ne (ap (λ x. a *ℤ x) e ∙ *ℤ-zero a))))

-- a factor of 1 is 1
factor_of_one : (x y : ℕ) → x * y ≡ 1 → x ≡ 1
factor_of_one zero y e = omega (arith, Nat.zero-mul y)
factor_of_one (suc x) zero e = omega (arith, Nat.mul-zero (suc x))
factor_of_one (suc x) (suc y) e = omega (arith, Nat.mul-suc (suc x) y)

-- a unit has the absolute value 1
pub unit_abs : (u : ℤ) → IsUnit ring u → unsigned_abs u ≡ 1
unit_abs u p = factor_of_one (unsigned_abs u) (unsigned_abs p.0) (sym (abs_mul u p.0) ∙ ap unsigned_abs p.1)

-- 1 or −1 times a number but 0 is positive
normal_multiple : (a : ℤ) → a ≢ pos 0 → (u : ℤ) × IsUnit ring u × (positive (u *ℤ a) ≡ true)
normal_multiple (pos n) ne = (pos 1, (pos 1, refl), rw (Nat.one-mul n) (abs_positive n (abs_nonzero (pos n) ne)))
normal_multiple (negsuc n) ne = (negsuc 0, (negsuc 0, refl), rw (Nat.one-mul (suc n)))

-- and the positive multiple by a unit is the absolute value
normal_unique : (a u v : ℤ) → a ≢ pos 0 → IsUnit ring u → IsUnit ring v → positive (u *ℤ a) ≡ true → positive (v *ℤ a) ≡ true → u *ℤ a ≡ v *ℤ a
normal_unique a u v ne p q s t = is u p s ∙ sym (is v q t)
  where
    is : (u : ℤ) → IsUnit ring u → positive (u *ℤ a) ≡ true → u *ℤ a ≡ pos (unsigned_abs a)
    is u p s = positive_abs (u *ℤ a) s ∙ ap pos (abs_mul u a ∙ ap (λ x. x * unsigned_abs a) (unit_abs u p) ∙ Nat.one-mul (unsigned_abs a))

-- a product of positive numbers is positive
normal_product : (a b : ℤ) → positive a ≡ true → positive b ≡ true → positive (a *ℤ b) ≡ true
normal_product a b s t =
    subst (λ x. positive x ≡ true) (sym (ap (λ x. x *ℤ b) (positive_abs a s) ∙ ap (λ x. pos (unsigned_abs a) *ℤ x) (positive_abs b t))) (abs_positive (unsigned_abs a * unsigned_abs b) (Nat.mul-pos (positive_nonzero a s) (positive_nonzero b t)))

-- the laws of division with remainder
pub laws : EuclideanLaws integers.euclidean
laws = record {
  one_not_zero = nonzero (pos 1) (omega arith);
  no_zero_divisors = no_zero_divisors;
  divide = divide;
  size_product = size_product;
  normal_multiple = normal_multiple;
  normal_unique = normal_unique;
  normal_one = refl;
  normal_product = normal_product;
}
