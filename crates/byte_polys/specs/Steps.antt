-- Lists of coefficients modulo p, that of x^0 first, and what the steps of the calculation with them give. Assumes nothing.
use Rattle.std.specs.Prelude.{◌≡◌, ℕ, zero, suc, ◌+◌, ◌-◌, ◌*◌, ◌%◌, ◌<◌, ◌≤◌, List, slice_index, slice_index_or}

-- every coefficient is below p
abbrev pub Below : ℕ → List ℕ → Type 0
Below p cs = (i : ℕ) → slice_index cs i < p

-- from x^n on every coefficient is 0
abbrev pub ZeroFrom : ℕ → List ℕ → Type 0
ZeroFrom n cs = (i : ℕ) → n ≤ i → slice_index cs i ≡ 0

-- the highest coefficient that is not 0 is that of x^n
pub record Top (cs : List ℕ) (n : ℕ) : Type 0 where
  pub short : n < 8
  pub some : slice_index_or cs n 0 ≡ 0 → ⊥
  pub above : ZeroFrom (n + 1) cs

-- the highest coefficient is that of x^n, it is 1, and n is 1 to 7
pub record Monic (cs : List ℕ) (n : ℕ) : Type 0 where
  pub low : 1 ≤ n
  pub high : n ≤ 7
  pub one : slice_index_or cs n 0 ≡ 1
  pub above : ZeroFrom (n + 1) cs

-- a divisor: its coefficients are below p, the highest is that of x^n, and modulo p it has the given inverse
pub record Divisor (p : ℕ) (cs : List ℕ) (n inverse : ℕ) : Type 0 where
  pub below : Below p cs
  pub short : n < 8
  pub above : ZeroFrom (n + 1) cs
  pub product : (slice_index cs n * inverse) % p ≡ 1

-- what makes a polynomial monic: it is below p, times the highest coefficient that is not 0 it is 1 modulo p, and for the
-- polynomial 0 it is 1
pub record Normalizer (p : ℕ) (cs : List ℕ) (u : ℕ) : Type 0 where
  pub below : u < p
  pub product : (n : ℕ) → Top cs n → (slice_index cs n * u) % p ≡ 1
  pub of_zero : ZeroFrom 0 cs → u ≡ 1

-- ys is xs and, coefficient by coefficient modulo p, c times the first n coefficients of b, moved up by k
pub record Added (p c k n : ℕ) (xs b ys : List ℕ) : Type 0 where
  pub below : (j : ℕ) → j < k → slice_index ys j ≡ slice_index xs j
  pub within : (j : ℕ) → j < n → slice_index ys (k + j) ≡ (slice_index xs (k + j) + c * slice_index b j) % p
  pub above : (j : ℕ) → k + n ≤ j → slice_index ys j ≡ slice_index xs j

-- a 0 · b k + a 1 · b (k − 1) + .. , n products
unfoldable pub products : List ℕ → List ℕ → ℕ → ℕ → ℕ
products a b k zero = 0
products a b k (suc n) = products a b k n + slice_index a n * slice_index b (k - n)
