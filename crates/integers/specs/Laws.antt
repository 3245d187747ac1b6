-- The domain of whole numbers keeps the laws of a domain. Assumes nothing.
use Rattle.std.specs.Prelude.{◌≡◌, ◌↔◌, ℤ, pos, unsigned_abs, refl}
use Rattle.std.proofs.Common.{sym, ap, subst, arith}
use Rattle.std.proofs.Math.Nat as Nat
use Rattle.algebra.specs.Divisibility.{Congruent}
use Rattle.domains.specs.Meaning.{Laws}
use Rattle.integers.specs.Ring.{ring}
use Rattle.integers.specs.Integers.{integers, wrapped}
use Rattle.integers.specs.Remainders.{wrapped_differs, wrapped_equal, equal_wrapped}
use Rattle.integers.specs.Sizes.{abs_positive}
use Rattle.integers.specs.EuclideanLaws.{laws}
use Rattle.integers.specs.Moduli.{Bounds, legal_bounds, abs_non_unit, legal_divisor, few_factors}

-- a remainder differs from its number by a multiple of the modulus
remainder_differs : (m a : ℤ) → Bounds m → Congruent ring m a (pos (wrapped (unsigned_abs m) a))
remainder_differs m a b =
    subst (λ x. Congruent ring x a (pos (wrapped (unsigned_abs m) a))) (sym b.is) (wrapped_differs (unsigned_abs m) (omega arith) a)

-- and two remainders are equal exactly when the modulus divides the difference
remainder_equal : (m a b : ℤ) → Bounds m → (pos (wrapped (unsigned_abs m) a) ≡ pos (wrapped (unsigned_abs m) b)) ↔ Congruent ring m a b
remainder_equal m a b z = (
  λ e. subst (λ x. Congruent ring x a b) (sym z.is) (equal_wrapped (unsigned_abs m) (omega arith) a b (ap unsigned_abs e)),
  λ p. ap pos (wrapped_equal (unsigned_abs m) (omega arith) a b (subst (λ x. Congruent ring x a b) z.is p)),
)

-- all laws of a domain
pub lawful : Laws integers
lawful = record {
  euclidean = laws;
  remainder_differs = λ m a e. remainder_differs m a (legal_bounds m e);
  remainder_equal = λ m a b e. remainder_equal m a b (legal_bounds m e);
  remainder_zero = λ m e. ap pos (Nat.zero-mod (unsigned_abs m));
  remainder_one = λ m e. ap pos (Nat.mod-eq_of_lt (legal_bounds m e).low);
  word_remainder = λ m a e. refl;
  word_zero = refl;
  word_one = refl;
  word_legal = λ m e. rw (legal_bounds m e).is refl;
  legal_normal = λ m e. rw (legal_bounds m e).is (abs_positive (unsigned_abs m) (omega (arith, (legal_bounds m e).low)));
  legal_no_unit = λ m e. abs_non_unit m (legal_bounds m e).low;
  legal_divisor = legal_divisor;
  few_factors = few_factors;
}
