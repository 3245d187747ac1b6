-- The legal moduli are the words from 2 to 2^32 − 1, and the squarefree ones among them are those that no square of a
-- non-unit divides. Assumes nothing.
use Rattle.std.specs.Prelude.{◌≡◌, ℕ, ◌^◌, ◌<◌, ◌≤◌, Bool, true, false, ◌==◌, nat_le, refl}
use Rattle.std.proofs.Common.{sym, ap, ◌∙◌, arith, pow_mono}
use Rattle.std.proofs.Math.Nat as Nat
use Rattle.std.proofs.lemmas.Bool.{and_parts, and_from, leb-true, le-leb, eq-eqb, false≢true}
use Rattle.algebra.specs.Divisibility.{Squarefree}
use Rattle.algebra.proofs.Bezout.{squarefree_iff_no_square}
use Rattle.domains.specs.Meaning.{SquarefreeModulus, legal_word}
use Rattle.domains.specs.Answers.{Decides}
use Rattle.domains.proofs.Calls.{legal_element}
use Rattle.domains.proofs.Decisions.{decides_like}
use Rattle.polynomials.specs.Polynomial.{degree}
use Rattle.polynomials.proofs.Ring.{polynomial_ring}
use Rattle.polynomials.proofs.Euclidean.{polynomial_laws}
use Rattle.polynomial_domains.specs.PolynomialDomain.{legal}
use Rattle.polynomial_domains.proofs.DomainLaws.{legal_is, legal_low, legal_high, legal_not_zero}
use Rattle.bit_polys.specs.BitPolys.{bit_field, bit_digits, polynomial_of, bit_polys}
use Rattle.bit_polys.specs.Moduli.{in_range, NoSquareDivides, ModulusWord}
use Rattle.bit_polys.specs.Words.{word_of_polynomial, zero_stands}
use Rattle.bit_polys.specs.HighestBits.{Top, top_of, top_below, top_above}
use Rattle.bit_polys.specs.Degrees.{word_degree, word_monic}

-- a word from 2 to 2^32 − 1
pub record Range (w : ℕ) : Type 0 where
  pub large : 2 ≤ w
  pub small : w < 2 ^ 32

-- the test `in_range` is true of such a word
pub range_test : (w : ℕ) → Range w → in_range w ≡ true
range_test w r = and_from (nat_le 2 w) (nat_le w 0xffff_ffff) (le-leb 2 w r.large) (le-leb w 0xffff_ffff (omega (arith, r.small)))

-- and of no other
pub test_range : (w : ℕ) → in_range w ≡ true → Range w
test_range w e =
    let p = and_parts (nat_le 2 w) (nat_le w 0xffff_ffff) e in
    record { large = leb-true 2 w p.0; small = omega (arith, leb-true w 0xffff_ffff p.1) }

-- such a word has a degree from 1 to 31, so it is legal
pub range_legal : (w : ℕ) → Range w → legal_word bit_polys w ≡ true
range_legal w r = and_from (legal bit_field bit_digits 31 (polynomial_of w)) (_ == w) element (eq-eqb _ w (word_of_polynomial w))
  where
    top : (n : ℕ) × Top w n
    top = top_of w (omega (arith, r.large))

    low : 1 ≤ degree bit_field (polynomial_of w)
    low = omega (arith, word_degree w top.0 top.1, top_above w top.0 1 top.1 r.large)

    high : degree bit_field (polynomial_of w) ≤ 31
    high = omega (arith, word_degree w top.0 top.1, top_below w top.0 32 top.1 r.small)

    element : legal bit_field bit_digits 31 (polynomial_of w) ≡ true
    element = legal_is bit_field bit_digits 31 (polynomial_of w) (word_monic w (omega (arith, r.large))) low high

-- and no other word is legal
pub legal_in_range : (w : ℕ) → legal_word bit_polys w ≡ true → Range w
legal_in_range w e = go (top_of w some)
  where
    element : legal bit_field bit_digits 31 (polynomial_of w) ≡ true
    element = legal_element bit_polys w e

    some : 0 < w
    some = Nat.pos_of_ne-zero (λ z. legal_not_zero bit_field bit_digits 31 (polynomial_of w) element (ap polynomial_of z ∙ zero_stands))

    go : (n : ℕ) × Top w n → Range w
    go (n, t) =
        let degree_is = word_degree w n t in
        let low : 1 ≤ n = omega (arith, legal_low bit_field bit_digits 31 (polynomial_of w) element) in
        let high : n ≤ 31 = omega (arith, legal_high bit_field bit_digits 31 (polynomial_of w) element) in
        record { large = omega (arith, pow_mono low, t.low); small = omega (arith, pow_mono high, t.high) }

-- two tests that are true together are equal
same_truth : (x y : Bool) → (x ≡ true → y ≡ true) → (y ≡ true → x ≡ true) → x ≡ y
same_truth true y f g = sym (f refl)
same_truth false true f g = g refl
same_truth false false f g = refl

-- so the test is whether a word is legal
pub legal_range : (w : ℕ) → legal_word bit_polys w ≡ in_range w
legal_range w = same_truth (legal_word bit_polys w) (in_range w) (λ e. range_test w (legal_in_range w e)) (λ e. range_legal w (test_range w e))

-- whether a polynomial is a unit is decided, so it is enough that no square of a non-unit divides
pub squarefree : (w : ℕ) → NoSquareDivides w → Squarefree (polynomial_ring bit_field) (polynomial_of w)
squarefree w = (squarefree_iff_no_square (polynomial_laws bit_field) (polynomial_of w)).1

-- and no square of a non-unit divides a squarefree polynomial
pub no_square : (w : ℕ) → Squarefree (polynomial_ring bit_field) (polynomial_of w) → NoSquareDivides w
no_square w = (squarefree_iff_no_square (polynomial_laws bit_field) (polynomial_of w)).0

-- a word in range that is squarefree is a squarefree modulus
pub squarefree_modulus : (w : ℕ) → ModulusWord w → SquarefreeModulus bit_polys w
squarefree_modulus w m = record { legal = range_legal w (record { large = m.large; small = m.small }); squarefree = squarefree w m.free }

-- and the other way round
pub modulus_word : (w : ℕ) → SquarefreeModulus bit_polys w → ModulusWord w
modulus_word w s = let r = legal_in_range w s.legal in record { large = r.large; small = r.small; free = no_square w s.squarefree }

-- a legal word is a modulus exactly when it is squarefree
pub decides_modulus : (r : Bool) (w : ℕ) → Range w → Decides r (NoSquareDivides w) → Decides r (ModulusWord w)
decides_modulus r w b = decides_like r (NoSquareDivides w) (ModulusWord w) (λ f. record { large = b.large; small = b.small; free = f }) (λ m. m.free)

-- and no other word is one
pub outside : (w : ℕ) → in_range w ≡ false → ¬ ModulusWord w
outside w e m = false≢true (sym e ∙ range_test w (record { large = m.large; small = m.small }))

-- what decides the one decides the other
pub decides_meant : (r : Bool) (w : ℕ) → Decides r (ModulusWord w) → Decides r (SquarefreeModulus bit_polys w)
decides_meant r w = decides_like r (ModulusWord w) (SquarefreeModulus bit_polys w) (squarefree_modulus w) (modulus_word w)
