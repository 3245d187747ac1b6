-- The highest bits of words. Assumes nothing.
use Rattle.std.specs.Prelude.{◌≡◌, ℕ, zero, suc, ◌+◌, ◌-◌, ◌*◌, ◌/◌, ◌^◌, ◌<◌, ◌≤◌, bit_xor}
use Rattle.std.proofs.Common.{sym, ap, ap₂, ◌∙◌, subst, arith, lit<, pow_pos, pow_mono, pow-add}
use Rattle.std.proofs.Math.Nat as Nat
use Rattle.std.proofs.Math.Decide.{dec_lt}
use Rattle.std.proofs.lemmas.Nat.{leading_top, xor_block, xor_lt}

-- the highest bit of the word w is bit n
pub record Top (w n : ℕ) : Type 0 where
  pub low : 2 ^ n ≤ w
  pub high : w < 2 * 2 ^ n

-- n is below 2^n
power_above : (w : ℕ) → w < 2 ^ w
power_above zero = lit< tt
power_above (suc w) = let h = power_above w in omega (arith, Nat.two-pow-succ w)

-- every word but 0 has a highest bit
pub top_of : (w : ℕ) → 0 < w → (n : ℕ) × Top w n
top_of w h =
    let t = leading_top w w h (power_above w) in
    (t.0, record { low = t.2; high = subst (λ x. w < x) (Nat.pow-succ' 2 t.0) t.3 })

-- a larger power has the larger exponent
pub exponent_below : (i j : ℕ) → 2 ^ i < 2 ^ j → i < j
exponent_below i j h = go (dec_lt i j)
  where
    go : Dec (i < j) → i < j
    go (yes l) = l
    go (no n) = let k : j ≤ i = omega arith in absurd (omega (arith, pow_mono k))

-- a word below 2^k has its highest bit below place k
pub top_below : (w n k : ℕ) → Top w n → w < 2 ^ k → n < k
top_below w n k t h = exponent_below n k (omega (arith, t.low))

-- and one from 2^k on has it at place k or above
pub top_above : (w n k : ℕ) → Top w n → 2 ^ k ≤ w → k ≤ n
top_above w n k t h = let l = exponent_below k (suc n) (subst (λ x. 2 ^ k < x) (sym (Nat.pow-succ' 2 n)) (omega (arith, t.high))) in omega arith

-- exclusive or of two words with the same highest bit clears it
pub xor_top : (v w n : ℕ) → Top v n → Top w n → bit_xor v w < 2 ^ n
xor_top v w n s t =
    let x : v - 2 ^ n < 2 ^ n = omega (arith, s.low, s.high) in
    let y : w - 2 ^ n < 2 ^ n = omega (arith, t.low, t.high) in
    subst (λ z. z < 2 ^ n)
    (sym (ap₂ bit_xor (split v s) (split w t) ∙ xor_block n 1 1 (v - 2 ^ n) (w - 2 ^ n) x y ∙ ap (λ z. z + bit_xor (v - 2 ^ n) (w - 2 ^ n)) (Nat.zero-mul (2 ^ n)) ∙ Nat.zero-add _))
    (xor_lt n (v - 2 ^ n) (w - 2 ^ n) x y)
  where
    split : (u : ℕ) → Top u n → u ≡ 1 * 2 ^ n + (u - 2 ^ n)
    split u r = omega (arith, r.low, Nat.one-mul (2 ^ n))

-- shifted to the place n, a word has its highest bit there
pub shifted_top : (b d n : ℕ) → Top b d → d ≤ n → Top (b * 2 ^ (n - d)) n
shifted_top b d n t h = record {
  low = subst (λ x. x ≤ b * 2 ^ (n - d)) whole (Nat.mul-le-mul_right (2 ^ (n - d)) t.low);
  high = subst (λ x. b * 2 ^ (n - d) < x) (Nat.mul_assoc 2 (2 ^ d) (2 ^ (n - d)) ∙ ap (λ x. 2 * x) whole) (Nat.mul-lt-mul_of_pos_right t.high (pow_pos (n - d)));
}
  where
    whole : 2 ^ d * 2 ^ (n - d) ≡ 2 ^ n
    whole = sym (pow-add 2 d (n - d)) ∙ ap (λ x. 2 ^ x) (Nat.add-sub_of_le h)

-- what becomes 0 when shifted down by k places is below 2^k
pub shifted_zero : (w k : ℕ) → w / 2 ^ k ≡ 0 → w < 2 ^ k
shifted_zero w k e = go (dec_lt w (2 ^ k))
  where
    go : Dec (w < 2 ^ k) → w < 2 ^ k
    go (yes h) = h
    go (no h) = absurd (omega (arith, (Nat.le-div_iff_mul-le {k = 2 ^ k} {x = 1} {y = w} (pow_pos k)).1 (omega arith)))

-- and what does not is from 2^k on
pub shifted_nonzero : (w k : ℕ) → 0 < w / 2 ^ k → 2 ^ k ≤ w
shifted_nonzero w k h = let l = (Nat.le-div_iff_mul-le {k = 2 ^ k} {x = 1} {y = w} (pow_pos k)).0 h in omega arith
