-- The bytes of GF(p) calculate modulo p. Assumes nothing.
use Rattle.std.specs.Prelude.{◌≡◌, ℕ, true, refl}
use Rattle.std.proofs.Common.{sym, arith}
use Rattle.polynomial_domains.proofs.PrimeField.{modular_add, modular_mul}
use Rattle.byte_polys.specs.Listed.{listed, listed_prime, listed_low, listed_high}
use Rattle.byte_polys.specs.ByteField.{field, byte_digits}
use Rattle.byte_polys.specs.Bytes.{Modulo}

-- remainders modulo p calculate as GF(p) does
pub modulo : (p : ℕ) (h : listed p ≡ true) → Modulo (field p h) (byte_digits p h) p
modulo p h = record {
  base = refl;
  positive = let low = listed_low p h in omega arith;
  small = let high = listed_high p h in omega arith;
  one = refl;
  add = λ m n. sym (modular_add p (listed_prime p h) m n);
  mul = λ m n. sym (modular_mul p (listed_prime p h) m n);
  rest = λ n. refl;
}
