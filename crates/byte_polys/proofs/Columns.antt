-- The sums of products of coefficients. Assumes nothing.
use Rattle.std.proofs.Common.{◌≡◌, ℕ, zero, suc, ◌+◌, ◌-◌, ◌*◌, ◌≤◌, min, List, get_or, sym, refl, ap, ◌∙◌, ap₂, add-one, arith}
use native.Mathlib.Nat as Nat
use native.Mathlib.Decide.{dec_le}
use Rattle.byte_polys.specs.Steps.{ZeroFrom, products}

-- one product more
pub products_next : (a b : List ℕ) (k n : ℕ) → products a b k (n + 1) ≡ products a b k n + get_or a n 0 * get_or b (k - n) 0
unfolding products
products_next a b k n = ap (products a b k) (add-one n)

-- products with a coefficient of b that is not there are 0
pub products_low : (a b : List ℕ) (k n : ℕ) → ZeroFrom 8 b → n ≤ k - 7 → products a b k n ≡ 0
unfolding products
products_low a b k zero z h = refl
products_low a b k (suc n) z h =
    ap₂ (λ x y. x + get_or a n 0 * y) (products_low a b k n z (omega arith)) (z (k - n) (omega arith)) ∙ omega (arith, Nat.mul-zero (get_or a n 0))

-- and so are those with one of a
pub products_high : (a b : List ℕ) (k n : ℕ) → ZeroFrom 8 a → products a b k (8 + n) ≡ products a b k 8
products_high a b k zero z = refl
products_high a b k (suc n) z =
    let next : 8 + suc n ≡ (8 + n) + 1 = omega arith in
    ap (products a b k) next
    ∙ products_next a b k (8 + n)
    ∙ ap₂ (λ x y. x + y * get_or b (k - (8 + n)) 0) (products_high a b k n z) (z (8 + n) (omega arith))
    ∙ omega (arith, Nat.zero-mul (get_or b (k - (8 + n)) 0))

-- so the first eight are all
pub products_all : (a b : List ℕ) (k n : ℕ) → ZeroFrom 8 a → n ≡ min k 7 + 1 → products a b k n ≡ products a b k (k + 1)
products_all a b k n z e = go (dec_le k 7)
  where
    go : Dec (k ≤ 7) → products a b k n ≡ products a b k (k + 1)
    go (yes h) = let same : n ≡ k + 1 = omega arith in ap (products a b k) same
    go (no h) =
        let eight : n ≡ 8 = omega arith in
        let more : 8 + (k - 7) ≡ k + 1 = omega arith in
        ap (products a b k) eight ∙ sym (products_high a b k (k - 7) z) ∙ ap (products a b k) more
