-- Absolute values: that of a product is the product of the absolute values, 0 alone has absolute value 0, and a positive
-- number is its own absolute value. Assumes nothing.
use Rattle.std.specs.Prelude.{◌≡◌, ℕ, zero, suc, ◌-◌, ◌*◌, ◌<◌, true, ◌≢◌, ℤ, pos, negsuc, ◌+ℤ◌, ◌*ℤ◌, neg_ℤ, nat_lt, unsigned_abs, refl}
use Rattle.std.proofs.Common.{ap, arith}
use Rattle.std.proofs.Math.Nat as Nat
use Rattle.std.proofs.lemmas.Bool.{cond_both, ltb-true, false≢true}
use Rattle.integers.specs.Integers.{positive}

-- a number and its negation have the same absolute value
pub abs_neg : (a : ℤ) → unsigned_abs (neg_ℤ a) ≡ unsigned_abs a
abs_neg (pos zero) = refl
abs_neg (pos (suc n)) = refl
abs_neg (negsuc n) = refl

-- the absolute value of a product is the product of the absolute values
pub abs_mul : (a b : ℤ) → unsigned_abs (a *ℤ b) ≡ unsigned_abs a * unsigned_abs b
abs_mul (pos a) (pos b) = refl
abs_mul (pos a) (negsuc b) = abs_neg (pos (a * suc b))
abs_mul (negsuc a) (pos b) = abs_neg (pos (suc a * b))
abs_mul (negsuc a) (negsuc b) = refl

-- only 0 has the absolute value 0
pub abs_zero : (a : ℤ) → unsigned_abs a ≡ 0 → a ≡ pos 0
abs_zero (pos n) e = ap pos e
abs_zero (negsuc n) e = absurd (omega arith)

-- any other number has one from 1 on
pub abs_nonzero : (a : ℤ) → a ≢ pos 0 → 0 < unsigned_abs a
abs_nonzero (pos n) ne = Nat.pos_of_ne-zero (λ e. ne (ap pos e))
abs_nonzero (negsuc n) ne = omega arith

-- and the other way round
pub nonzero : (a : ℤ) → 0 < unsigned_abs a → a ≢ pos 0
nonzero a h e = omega (arith, ap unsigned_abs e)

-- a positive number is its own absolute value
pub positive_abs : (a : ℤ) → positive a ≡ true → a ≡ pos (unsigned_abs a)
positive_abs (pos n) e = refl
positive_abs (negsuc n) e = absurd (false≢true e)

-- a number from 1 on is positive
pub abs_positive : (n : ℕ) → 0 < n → positive (pos n) ≡ true
abs_positive zero h = absurd (omega arith)
abs_positive (suc n) h = refl

-- and the other way round
pub positive_nonzero : (a : ℤ) → positive a ≡ true → 0 < unsigned_abs a
positive_nonzero (pos zero) e = absurd (false≢true e)
positive_nonzero (pos (suc n)) e = omega arith
positive_nonzero (negsuc n) e = omega arith

-- two numbers below k differ by less than k
pub abs_difference : (k x y : ℕ) → x < k → y < k → unsigned_abs (pos x +ℤ neg_ℤ (pos y)) < k
abs_difference k x zero h g = omega arith
abs_difference k x (suc y) h g =
    cond_both (nat_lt x (suc y)) (negsuc (suc y - suc x)) (pos (x - suc y)) (λ z. unsigned_abs z < k) (λ e. omega (arith, ltb-true x (suc y) e)) (λ e. omega arith)
