-- The remainder of a polynomial modulo another, by long division. Assumes nothing.
use Rattle.std.proofs.Math.Logic.{ite, dite}
use Rattle.std.specs.Prelude.{ℕ, zero, suc, ◌-◌}
use Rattle.std.proofs.Math.Decide.{dec_le}
use Rattle.algebra.specs.Field.{Field}
use Rattle.polynomials.specs.Polynomial.{Polynomial, monomial, plus, negative, times, degree, leading}

module _ {K : Type 0} (𝓚 : Field K) where
  open 𝓚.ring use {mul as ◌⊙◌, zero as 𝟘}

  infixl 70 ◌⊙◌
  -- 1/a; 0 for 0
  unfoldable pub reciprocal : K → K
  reciprocal a = dite (𝓚.equal a 𝟘) (λ _. 𝟘) (λ h. (𝓚.inverse a h).0)

  -- the monomial whose product with m has the coefficient of p at x^n, where n is not below the degree of m
  unfoldable pub factor : Polynomial 𝓚 → ℕ → Polynomial 𝓚 → Polynomial 𝓚
  factor m n p = monomial 𝓚 (p.coefficient n ⊙ reciprocal (leading 𝓚 m)) (n - degree 𝓚 m)

  -- p without that product: its coefficient at x^n is 0
  unfoldable pub reduce : Polynomial 𝓚 → ℕ → Polynomial 𝓚 → Polynomial 𝓚
  reduce m n p = plus 𝓚 p (negative 𝓚 (times 𝓚 (factor m n p) m))

  -- long division: p reduced at x^(n − 1), the result at x^(n − 2), and so on down to the degree of m
  unfoldable pub reduce_below : Polynomial 𝓚 → ℕ → Polynomial 𝓚 → Polynomial 𝓚
  reduce_below m zero p = p
  reduce_below m (suc n) p = ite (dec_le (degree 𝓚 m) n) (reduce_below m n (reduce m n p)) p

  -- the remainder of p modulo m: all coefficients of p from the degree of m on are reduced; it means nothing if m is 0
  unfoldable pub remainder : Polynomial 𝓚 → Polynomial 𝓚 → Polynomial 𝓚
  remainder m p = reduce_below m p.bound p
