-- The field of the residues of whole numbers modulo a prime p, and how its elements are written as digits: the digit n
-- stands for the residue of n, and an element is written as its number from 0 to p − 1. Assumes nothing.
use Rattle.std.specs.Prelude.{◌≡◌, true, false, ◌||◌, not, ◌≢◌, ℕ, zero, suc, ◌*◌, ◌%◌, ◌<◌, ◌≤◌, leb, ltb, eqb, pos, nat_abs, ◌*ℤ◌}
use Rattle.std.proofs.Common.{sym, ap, ◌∙◌, subst, inl, inr, arith, eq-or-lt_of_le, le_of_suc-le-suc}
use Rattle.std.proofs.Math.Nat as Nat
use borrow.Author.Tests.{le-ltb, clash}
use Rattle.std.proofs.lemmas.Bool.{and_parts, leb-true, eq-eqb}
use Rattle.std.proofs.Math.IntN.{zero-*ℤ, *ℤ-zero}
use Rattle.algebra.specs.Divisibility.{Irreducible}
use Rattle.algebra.specs.Field.{Field}
use Rattle.algebra.specs.Residues.{Remainders, Residue}
use Rattle.algebra.proofs.Residues.{residue, residue_field, residues_equal}
use Rattle.integers.specs.Integers.{integers}
use Rattle.integers.specs.Ring.{ring}
use Rattle.integers.specs.Laws.{lawful}
use Rattle.integers.specs.Moduli.{non_unit_abs, abs_non_unit}
use Rattle.integers.specs.Remainders.{wrapped_below, wrapped_differs, wrapped_equal}
use Rattle.integers.specs.Sizes.{abs_mul, nonzero}
use Rattle.polynomials.specs.Words.{Digits}
use Rattle.polynomial_domains.specs.Primes.{undivided, prime}

-- what the test says
pub prime_low : (p : ℕ) → prime p ≡ true → 2 ≤ p
prime_low p h = leb-true 2 p (and_parts (leb 2 p) (undivided p p) h).0

-- a number from 2 on that passed does not divide p
step : (p n : ℕ) → (ltb n 2 || not (eqb (p % n) 0)) ≡ true → 2 ≤ n → p % n ≢ 0
step p n h low z =
    let large : ltb n 2 ≡ false = le-ltb n 2 low in
    let divides : eqb (p % n) 0 ≡ true = eq-eqb (p % n) 0 z in
    clash (ap (λ t. t || false) (sym large) ∙ ap (λ t. ltb n 2 || not t) (sym divides) ∙ h)

undivided_at : (p n k : ℕ) → undivided p n ≡ true → 2 ≤ k → k < n → p % k ≢ 0
undivided_at p zero k h low high = absurd (omega arith)
undivided_at p (suc n) k h low high =
    let parts = and_parts (ltb n 2 || not (eqb (p % n) 0)) (undivided p n) h in
    elim (eq-or-lt_of_le (le_of_suc-le-suc high)) [
      | inl e ↦ subst (λ j. p % j ≢ 0) (sym e) (step p n parts.0 (subst (λ j. 2 ≤ j) e low))
      | inr l ↦ undivided_at p n k parts.1 low l
    ]

module _ (p : ℕ) (is_prime : prime p ≡ true) where
  pub positive_prime : 0 < p
  positive_prime = let low = prime_low p is_prime in omega arith

  -- a factor of p that is no unit is p itself
  whole : (b c : ℕ) → b * c ≡ p → 2 ≤ b → 2 ≤ c → ⊥
  whole b c e low high =
      undivided_at p p b (and_parts (leb 2 p) (undivided p p) is_prime).1 low (subst (λ x. b < x) e below) (ap (λ x. x % b) (sym e) ∙ Nat.mul-mod_right b c)
    where
      below : b < b * c
      below = let k : b * 2 ≤ b * c = Nat.mul-le-mul_left b high in omega arith

  -- a prime number is irreducible
  pub prime_irreducible : Irreducible ring (pos p)
  prime_irreducible = record {
    not_zero = nonzero (pos p) positive_prime;
    not_unit = abs_non_unit (pos p) (prime_low p is_prime);
    no_product = λ b c e nb nc.
        let sizes : nat_abs b * nat_abs c ≡ p = sym (abs_mul b c) ∙ ap nat_abs (sym e) in
        let b_nonzero : b ≢ pos 0 = λ z. nonzero (pos p) positive_prime (e ∙ ap (λ x. x *ℤ c) z ∙ zero-*ℤ c) in
        let c_nonzero : c ≢ pos 0 = λ z. nonzero (pos p) positive_prime (e ∙ ap (λ x. b *ℤ x) z ∙ *ℤ-zero b) in
        whole (nat_abs b) (nat_abs c) sizes (non_unit_abs b b_nonzero nb) (non_unit_abs c c_nonzero nc);
  }

  -- the remainders are those of the domain of whole numbers
  abbrev pub modulo : Remainders ring (pos p)
  modulo = record {
    remainder = integers.remainder (pos p);
    congruent = wrapped_differs p positive_prime;
    same = λ a b d. ap pos (wrapped_equal p positive_prime a b d);
  }

  -- a number from 0 to p − 1, as a whole number that is its own remainder
  abbrev pub Modular : Type 0
  Modular = Residue ring (pos p) modulo

  -- the residue of a number
  abbrev pub modular : ℕ → Modular
  modular n = residue ring (pos p) modulo (pos n)

  -- GF(p)
  abbrev pub prime_field : Field Modular
  prime_field = residue_field lawful.euclidean (pos p) prime_irreducible modulo

  -- an element is the residue of its number
  pub modular_number : (a : Modular) → modular (nat_abs a.0) ≡ a
  modular_number a = residues_equal ring (pos p) modulo (ap (integers.remainder (pos p)) (sym (own a)) ∙ a.1)
    where
      own : (a : Modular) → a.0 ≡ pos (nat_abs a.0)
      own a = sym a.1 ∙ ap (λ x. pos (nat_abs x)) a.1

  pub number_below : (a : Modular) → nat_abs a.0 < p
  number_below a = subst (λ x. nat_abs x < p) a.1 (wrapped_below p positive_prime a.0)

  -- its elements as digits of a base that is no smaller than p
  abbrev pub prime_digits : (base : ℕ) → p ≤ base → Digits prime_field
  prime_digits base large = record {
    base = base;
    two_or_more = let low = prime_low p is_prime in omega arith;
    element = modular;
    number = λ a. nat_abs a.0;
    number_small = λ a. let below = number_below a in omega arith;
    number_zero = Nat.zero-mod p;
    element_number = modular_number;
  }
