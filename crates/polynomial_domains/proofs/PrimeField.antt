-- GF(p) is the multiples of 1, so every element is its own p-th power. Assumes nothing.
use mathlib.Core.Path.{◌≡◌, refl, sym, ap, ◌∙◌}
use mathlib.Core.Bool.{true}
use mathlib.Core.Logic.{◌≢◌}
use Prim.Native.Nat.{ℕ, zero, suc, ◌+◌, ◌*◌, ◌%◌, ◌<◌}
use native.Mathlib.Nat as Nat
use native.Mathlib.Numerals.{one-add}
use native.Mathlib.Omega.{arith}
use lib.IntN.{pos, nat_abs}
use Rattle.algebra.proofs.Residues.{residues_equal, remainder_add_left, remainder_add_right, remainder_mul_left, remainder_mul_right}
use Rattle.integers.specs.Ring.{ring}
use Rattle.polynomials.specs.Perfect.{Perfect}
use Rattle.polynomials.specs.Sequence.{multiple}
use Rattle.polynomials.proofs.Characteristic.{field_characteristic, multiples_perfect}
use Rattle.polynomial_domains.specs.PrimeField.{positive_prime, modulo, Modular, modular, prime_field, modular_number}
use Rattle.polynomial_domains.specs.Primes.{prime}

module _ (p : ℕ) (is_prime : prime p ≡ true) where
  -- residues add and multiply as their numbers do
  pub modular_add : (m n : ℕ) → (prime_field p is_prime).ring.add (modular p is_prime m) (modular p is_prime n) ≡ modular p is_prime (m + n)
  modular_add m n =
      residues_equal ring (pos p) (modulo p is_prime)
      (remainder_add_left ring (pos p) (modulo p is_prime) (pos m) ((modulo p is_prime).remainder (pos n)) ∙ remainder_add_right ring (pos p) (modulo p is_prime) (pos m) (pos n))

  pub modular_mul : (m n : ℕ) → (prime_field p is_prime).ring.mul (modular p is_prime m) (modular p is_prime n) ≡ modular p is_prime (m * n)
  modular_mul m n =
      residues_equal ring (pos p) (modulo p is_prime)
      (remainder_mul_left ring (pos p) (modulo p is_prime) (pos m) ((modulo p is_prime).remainder (pos n)) ∙ remainder_mul_right ring (pos p) (modulo p is_prime) (pos m) (pos n))

  pub multiple_one : (n : ℕ) → multiple (prime_field p is_prime).ring n (prime_field p is_prime).ring.one ≡ modular p is_prime n
  unfolding multiple
  multiple_one zero = refl
  multiple_one (suc n) = ap ((prime_field p is_prime).ring.add (modular p is_prime 1)) (multiple_one n) ∙ modular_add 1 n ∙ ap (modular p is_prime) (one-add n)

  -- equal residues have equal remainders
  pub modular_equal : (m n : ℕ) → modular p is_prime m ≡ modular p is_prime n → m % p ≡ n % p
  modular_equal m n e = ap (λ (x : Modular p is_prime). nat_abs x.0) e

  pub equal_modular : (m n : ℕ) → m % p ≡ n % p → modular p is_prime m ≡ modular p is_prime n
  equal_modular m n e = residues_equal ring (pos p) (modulo p is_prime) (ap pos e)

  pub prime_perfect : Perfect (prime_field p is_prime)
  prime_perfect =
      multiples_perfect (prime_field p is_prime) p
      (field_characteristic (prime_field p is_prime) p (positive_prime p is_prime) (multiple_one p ∙ equal_modular p 0 (Nat.mod_self p ∙ sym (Nat.zero-mod p))) least)
      (λ a. (nat_abs a.0, multiple_one (nat_abs a.0) ∙ modular_number p is_prime a))
    where
      least : (n : ℕ) → 0 < n → n < p → multiple (prime_field p is_prime).ring n (prime_field p is_prime).ring.one ≢ (prime_field p is_prime).ring.zero
      least n low high e =
          let same : n % p ≡ 0 % p = modular_equal n 0 (sym (multiple_one n) ∙ e) in
          absurd (omega (arith, Nat.mod-eq_of_lt high, Nat.zero-mod p))
