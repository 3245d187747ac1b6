-- Squarefree numbers: no square from 4 on divides a number exactly when it is squarefree among all whole numbers, and the
-- words of the moduli are the squarefree numbers from 2 to 2147483647. Assumes nothing.
use Rattle.std.specs.Prelude.{◌≡◌, ℕ, ◌*◌, ◌/◌, ◌%◌, ◌<◌, ◌≤◌, true, ◌≢◌, pos, ◌*ℤ◌, ◌==◌, unsigned_abs, refl}
use Rattle.std.proofs.Common.{sym, ap, ◌∙◌, subst, arith}
use Rattle.std.proofs.Math.Nat as Nat
use Rattle.std.proofs.Math.Decide.{dec_le}
use Rattle.std.proofs.lemmas.Bool.{and_parts, and_from, eq-eqb}
use Rattle.algebra.specs.Divisibility.{Divides, IsUnit, Squarefree}
use Rattle.algebra.proofs.Divides.{divides_trans}
use Rattle.algebra.proofs.Bezout.{size_unit, factor_nonzero}
use Rattle.domains.specs.Meaning.{SquarefreeModulus, legal_word}
use Rattle.integers.specs.Ring.{ring}
use Rattle.integers.specs.Integers.{integers, legal}
use Rattle.integers.specs.Squarefree.{NoSquareDivides, ModulusWord}
use Rattle.integers.specs.Sizes.{abs_mul, abs_nonzero, nonzero}
use Rattle.integers.specs.EuclideanLaws.{laws}
use Rattle.integers.specs.Moduli.{Bounds, legal_bounds, bounds_legal, abs_non_unit}

-- b leaves no remainder by a exactly when a divides b among all whole numbers
pub mod_divides : (a b : ℕ) → b % a ≡ 0 → Divides ring (pos a) (pos b)
mod_divides a b e = (pos (b / a), ap pos (omega (arith, Nat.div-add-mod b a)))

pub divides_mod : (a b : ℕ) → Divides ring (pos a) (pos b) → b % a ≡ 0
divides_mod a b p = subst (λ x. x % a ≡ 0) (sym (abs_mul (pos a) p.0) ∙ ap unsigned_abs p.1) (Nat.mul-mod_right a (unsigned_abs p.0))

-- what divides a divisor of c divides c
pub mod_trans : (a b c : ℕ) → b % a ≡ 0 → c % b ≡ 0 → c % a ≡ 0
mod_trans a b c p q = divides_mod a c (divides_trans ring {a = pos a} {b = pos b} {c = pos c} (mod_divides a b p) (mod_divides b c q))

-- a number from 1 on that no square divides is squarefree among the whole numbers
pub squarefree : (n : ℕ) → 0 < n → NoSquareDivides n → Squarefree ring (pos n)
squarefree n h free d p = go (dec_le 2 (unsigned_abs d))
  where
    whole : unsigned_abs d * unsigned_abs d * unsigned_abs p.0 ≡ n
    whole = ap (λ x. x * unsigned_abs p.0) (sym (abs_mul d d)) ∙ sym (abs_mul (d *ℤ d) p.0) ∙ ap unsigned_abs p.1

    some : d ≢ pos 0
    some = factor_nonzero laws d d (factor_nonzero laws (d *ℤ d) p.0 (λ z. nonzero (pos n) h (sym p.1 ∙ z)))

    go : Dec (2 ≤ unsigned_abs d) → IsUnit ring d
    go (yes l) = absurd (free (unsigned_abs d) l (subst (λ x. x % (unsigned_abs d * unsigned_abs d) ≡ 0) whole (Nat.mul-mod_right (unsigned_abs d * unsigned_abs d) (unsigned_abs p.0))))
    go (no l) = size_unit laws d some (omega (arith, abs_nonzero d some))

-- and the other way round
pub no_square : (n : ℕ) → Squarefree ring (pos n) → NoSquareDivides n
no_square n s d h e = abs_non_unit (pos d) h (s (pos d) (mod_divides (d * d) n e))

-- the word of a legal modulus is from 2 to 2147483647
pub word_bounds : (w : ℕ) → legal_word integers w ≡ true → Bounds (pos w)
word_bounds w e = legal_bounds (pos w) (and_parts (legal (pos w)) (w == w) e).0

-- a squarefree word from 2 to 2147483647 is a squarefree modulus
pub squarefree_modulus : (w : ℕ) → ModulusWord w → SquarefreeModulus integers w
squarefree_modulus w m = record {
  legal = and_from (legal (pos w)) (w == w) (bounds_legal w m.large (omega arith)) (eq-eqb w w refl);
  squarefree = squarefree w (omega arith) m.free;
}

-- and the other way round
pub modulus_word : (w : ℕ) → SquarefreeModulus integers w → ModulusWord w
modulus_word w s =
    let b = word_bounds w s.legal in
    record { large = b.low; small = omega arith; free = no_square w s.squarefree }
