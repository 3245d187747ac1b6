-- The legal moduli are from 2 to 2147483647. So none is a unit, the positive divisors of one that are no units are legal
-- too, and none is a product of more than 32 non-units. Assumes nothing.
use Rattle.std.specs.Prelude.{◌≡◌, ℕ, ◌^◌, ◌≤◌, true, ◌≢◌, List, [], ◌∷◌, length, ℤ, pos, negsuc, ◌*ℤ◌, nat_le, unsigned_abs, refl}
use Rattle.std.proofs.Common.{sym, ap, ◌∙◌, arith, lit≤}
use Rattle.std.proofs.Math.Nat as Nat
use Rattle.std.proofs.Math.Decide.{dec_le}
use Rattle.std.proofs.Math.IntN.{*ℤ-zero, zero-*ℤ}
use Rattle.std.proofs.lemmas.Bool.{and_parts, and_from, leb-true, le-leb, false≢true}
use Rattle.algebra.specs.Divisibility.{Divides, IsUnit, product, NonUnits}
use Rattle.algebra.proofs.Bezout.{size_unit, divisor_size}
use Rattle.integers.specs.Ring.{ring}
use Rattle.integers.specs.Integers.{positive, legal}
use Rattle.integers.specs.Sizes.{abs_mul, abs_nonzero, nonzero, positive_abs, positive_nonzero}
use Rattle.integers.specs.EuclideanLaws.{laws, unit_abs}

-- a legal modulus is its absolute value, which is from 2 to 2147483647
pub record Bounds (m : ℤ) : Type 0 where
  pub is : m ≡ pos (unsigned_abs m)
  pub low : 2 ≤ unsigned_abs m
  pub high : unsigned_abs m ≤ 2147483647

pub legal_bounds : (m : ℤ) → legal m ≡ true → Bounds m
legal_bounds (pos n) e =
    let both = and_parts (nat_le 2 n) (nat_le n 2147483647) e in
    record { is = refl; low = leb-true 2 n both.0; high = leb-true n 2147483647 both.1 }
legal_bounds (negsuc n) e = absurd (false≢true e)

-- and the other way round
pub bounds_legal : (n : ℕ) → 2 ≤ n → n ≤ 2147483647 → legal (pos n) ≡ true
bounds_legal n h g = and_from (nat_le 2 n) (nat_le n 2147483647) (le-leb 2 n h) (le-leb n 2147483647 g)

-- a number but 0 that is no unit has an absolute value from 2 on
pub non_unit_abs : (a : ℤ) → a ≢ pos 0 → ¬ IsUnit ring a → 2 ≤ unsigned_abs a
non_unit_abs a ne n = go (dec_le 2 (unsigned_abs a))
  where
    go : Dec (2 ≤ unsigned_abs a) → 2 ≤ unsigned_abs a
    go (yes h) = h
    go (no h) = absurd (n (size_unit laws a ne (omega (arith, abs_nonzero a ne))))

-- and the other way round
pub abs_non_unit : (a : ℤ) → 2 ≤ unsigned_abs a → ¬ IsUnit ring a
abs_non_unit a h u = omega (arith, unit_abs a u)

-- a positive divisor of a legal modulus that is no unit is legal
pub legal_divisor : (m d : ℤ) → legal m ≡ true → Divides ring d m → positive d ≡ true → ¬ IsUnit ring d → legal d ≡ true
legal_divisor m d e p s n =
    let b = legal_bounds m e in
    let small : unsigned_abs d ≤ unsigned_abs m = divisor_size laws {a = d} {b = m} p (nonzero m (omega arith)) in
    rw (positive_abs d s) (bounds_legal (unsigned_abs d) (non_unit_abs d (nonzero d (positive_nonzero d s)) n) (omega arith))

-- a product of n non-units, if it is not 0, has an absolute value from 2^n on
product_large : (xs : List ℤ) → NonUnits ring xs → product ring xs ≢ pos 0 → 2 ^ length xs ≤ unsigned_abs (product ring xs)
product_large [] n ne = lit≤ tt
product_large (x ∷ xs) n ne =
    rw (Nat.pow-succ' 2 (length xs), abs_mul x (product ring xs)) (Nat.mul-le-mul (non_unit_abs x first n.0) (product_large xs n.1 rest))
  where
    first : x ≢ pos 0
    first z = ne (ap (λ y. y *ℤ product ring xs) z ∙ zero-*ℤ (product ring xs))

    rest : product ring xs ≢ pos 0
    rest z = ne (ap (λ y. x *ℤ y) z ∙ *ℤ-zero x)

-- a legal modulus is below 2^33, so it is no product of 33 non-units
pub few_factors : (m : ℤ) (xs : List ℤ) → legal m ≡ true → NonUnits ring xs → product ring xs ≡ m → length xs ≤ 32
few_factors m xs e n p = go (dec_le 33 (length xs))
  where
    b : Bounds m
    b = legal_bounds m e

    large : 2 ^ length xs ≤ unsigned_abs m
    large = rw p at (product_large xs n (λ z. nonzero m (omega (arith, b.low)) (sym p ∙ z)))

    go : Dec (33 ≤ length xs) → length xs ≤ 32
    go (yes h) = absurd (omega (arith, large, b.high, Nat.pow-le-pow_right {n = 2} (lit≤ tt) h))
    go (no h) = omega arith
