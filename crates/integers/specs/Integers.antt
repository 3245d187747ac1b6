-- What the domain of whole numbers means: its elements, sizes, moduli and remainders. Assumes nothing.
use Rattle.std.specs.Prelude.{ℕ, zero, suc, ◌-◌, ◌%◌, Bool, true, false, ◌&&◌, ℤ, pos, negsuc, nat_le, unsigned_abs}
use Rattle.std.proofs.Math.IntN.{ℤ_discrete}
use Rattle.domains.specs.Meaning.{Meaning}
use Rattle.integers.specs.Ring.{ring}

-- the normal numbers are the positive ones
abbrev pub positive : ℤ → Bool
positive (pos zero) = false
positive (pos (suc n)) = true
positive (negsuc n) = false

-- the legal moduli are the numbers from 2 to 2147483647
abbrev pub legal : ℤ → Bool
legal (pos n) = nat_le 2 n && nat_le n 2147483647
legal (negsuc n) = false

-- `wrapped k a` is the one number from 0 to k − 1 that differs from a by a multiple of k, for negative a too: −1 − n,
-- written `negsuc n`, wraps to k − 1 less the remainder of n
abbrev pub wrapped : ℕ → ℤ → ℕ
wrapped k (pos n) = n % k
wrapped k (negsuc n) = (k - 1) - n % k

-- the canonical word of a number from 0 on is that number; what it is for a negative number means nothing, since no
-- remainder and no modulus is negative
abbrev pub word : ℤ → ℕ
word (pos n) = n
word (negsuc n) = 0

-- The domain. Its elements are all whole numbers, the size of a number is its absolute value, and a word stands for the
-- number that it is. A legal modulus is positive, so it is its own absolute value.
abbrev pub integers : Meaning
integers = record {
  Element = ℤ;
  euclidean = record { ring = ring; equal = ℤ_discrete; size = unsigned_abs; normal = positive };
  element = pos;
  legal = legal;
  remainder = λ m a. pos (wrapped (unsigned_abs m) a);
  word = word;
}
