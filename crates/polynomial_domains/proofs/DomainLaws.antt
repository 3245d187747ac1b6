-- The domains of polynomials keep the laws. Assumes nothing.
use mathlib.Core.Path.{◌≡◌, sym, ap, ◌∙◌, subst}
use mathlib.Core.Bool.{true, ◌&&◌}
use mathlib.Core.Logic.{◌≢◌}
use Prim.Native.Nat.{ℕ, ◌≤◌}
use native.Mathlib.Omega.{arith}
use Rattle.std.proofs.lemmas.Bool.{and_parts, and_from, leb-true, le-leb}
use lib.Dec.{leb}
use Rattle.algebra.specs.Divisibility.{Divides}
use Rattle.algebra.specs.Field.{Field}
use Rattle.algebra.proofs.Bezout.{divisor_nonzero}
use Rattle.domains.specs.Meaning.{Laws}
use Rattle.polynomials.specs.Polynomial.{Polynomial, zero_polynomial, degree, monic}
use Rattle.polynomial_domains.specs.PolynomialDomain.{legal, polynomial_domain}
use Rattle.polynomials.specs.Words.{Digits}
use Rattle.polynomials.proofs.Euclidean.{polynomial_laws}
use Rattle.polynomials.proofs.Ring.{polynomial_ring}
use Rattle.polynomials.proofs.Units.{degree_left, monic_leading, monic_not_zero, unit_degree}
use Rattle.polynomials.proofs.Products.{non_unit_degree, product_degree}
use Rattle.polynomials.proofs.Remainder.{remainder_congruent, remainder_equal, remainder_zero, remainder_one}
use Rattle.polynomials.proofs.Words.{from_word_to_word}

module _ {K : Type 0} (𝓚 : Field K) (d : Digits 𝓚) (n : ℕ) where
  -- what legal says
  legal_parts : (m : Polynomial 𝓚) → legal 𝓚 d n m ≡ true → (monic 𝓚 m ≡ true) × (leb 1 (degree 𝓚 m) ≡ true) × (leb (degree 𝓚 m) n ≡ true)
  legal_parts m l =
      let (c, bounds) = and_parts (monic 𝓚 m) (leb 1 (degree 𝓚 m) && leb (degree 𝓚 m) n) l in
      let (low, high) = and_parts (leb 1 (degree 𝓚 m)) (leb (degree 𝓚 m) n) bounds in
      (c, low, high)

  pub legal_monic : (m : Polynomial 𝓚) → legal 𝓚 d n m ≡ true → monic 𝓚 m ≡ true
  legal_monic m l = (legal_parts m l).0

  pub legal_low : (m : Polynomial 𝓚) → legal 𝓚 d n m ≡ true → 1 ≤ degree 𝓚 m
  legal_low m l = leb-true 1 (degree 𝓚 m) (legal_parts m l).1

  pub legal_high : (m : Polynomial 𝓚) → legal 𝓚 d n m ≡ true → degree 𝓚 m ≤ n
  legal_high m l = leb-true (degree 𝓚 m) n (legal_parts m l).2

  -- and what makes it
  pub legal_is : (m : Polynomial 𝓚) → monic 𝓚 m ≡ true → 1 ≤ degree 𝓚 m → degree 𝓚 m ≤ n → legal 𝓚 d n m ≡ true
  legal_is m c low high = and_from _ _ c (and_from _ _ (le-leb 1 (degree 𝓚 m) low) (le-leb (degree 𝓚 m) n high))

  pub legal_not_zero : (m : Polynomial 𝓚) → legal 𝓚 d n m ≡ true → m ≢ zero_polynomial 𝓚
  legal_not_zero m l = monic_not_zero 𝓚 m (monic_leading 𝓚 m (legal_monic m l))

  -- a divisor of a non-zero polynomial has no higher degree
  divisor_degree : (p m : Polynomial 𝓚) → m ≢ zero_polynomial 𝓚 → Divides (polynomial_ring 𝓚) p m → degree 𝓚 p ≤ degree 𝓚 m
  divisor_degree p m ne q = subst (λ x. degree 𝓚 p ≤ degree 𝓚 x) q.1 (degree_left 𝓚 p q.0 (λ z. ne (sym q.1 ∙ z)))

  -- all laws of a domain, where no legal modulus has a degree over 32
  pub polynomial_domain_laws : n ≤ 32 → Laws (polynomial_domain 𝓚 d n)
  polynomial_domain_laws few = record {
    euclidean = polynomial_laws 𝓚;
    remainder_differs = λ m a l. remainder_congruent 𝓚 m a;
    remainder_equal = λ m a b l. remainder_equal 𝓚 m (legal_not_zero m l) a b;
    remainder_zero = λ m l. remainder_zero 𝓚 m (legal_not_zero m l);
    remainder_one = λ m l. remainder_one 𝓚 m (legal_not_zero m l) (legal_low m l);
    word_remainder = λ m a l. from_word_to_word 𝓚 d _;
    word_zero = from_word_to_word 𝓚 d _;
    word_one = from_word_to_word 𝓚 d _;
    word_legal = λ m l. from_word_to_word 𝓚 d m;
    legal_normal = legal_monic;
    legal_no_unit = λ m l u. let low = legal_low m l in let none = unit_degree 𝓚 m u in absurd (omega arith);
    legal_divisor = λ m p l q c k.
        let ne = divisor_nonzero (polynomial_laws 𝓚) q (legal_not_zero m l) in
        let high = legal_high m l in
        let down = divisor_degree p m (legal_not_zero m l) q in
        legal_is p c (non_unit_degree 𝓚 p ne k) (omega arith);
    few_factors = λ m xs l us e.
        let high = legal_high m l in
        let count = product_degree 𝓚 xs us (λ z. legal_not_zero m l (sym e ∙ z)) in
        let same = ap (degree 𝓚) e in
        omega arith;
  }
