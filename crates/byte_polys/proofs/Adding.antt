-- Adding c·x^k·b, coefficient by coefficient, adds that polynomial. Assumes nothing.
use Rattle.std.proofs.Common.{◌≡◌, ℕ, ◌+◌, ◌-◌, ◌*◌, ◌%◌, ◌<◌, ◌≤◌, List, get_or, sym, ap, ◌∙◌, subst, ap₂, arith}
use native.Mathlib.Nat as Nat
use native.Mathlib.Decide.{dec_le, dec_lt}
use Rattle.algebra.specs.Field.{Field}
use Rattle.algebra.proofs.Ring
use Rattle.polynomials.specs.Polynomial.{monomial, plus, times}
use Rattle.polynomials.specs.Words.{Digits, element_zero, from_word}
use Rattle.polynomials.proofs.Coefficients.{coefficient_plus, coefficient_shift, coefficient_shift_below}
use Rattle.byte_polys.specs.ByteField.{number}
use Rattle.byte_polys.specs.Steps.{Below, ZeroFrom, Added}
use Rattle.byte_polys.specs.Bytes.{Modulo, coefficient_byte, element_mod, poly_is}

-- what holds below k and from k on holds everywhere
pub from_split : (P : ℕ → Type 0) (k : ℕ) → ((j : ℕ) → j < k → P j) → ((j : ℕ) → P (k + j)) → (i : ℕ) → P i
from_split P k low high i = go (dec_le k i)
  where
    go : Dec (k ≤ i) → P i
    go (yes h) = subst P (Nat.add-sub_of_le h) (high (i - k))
    go (no h) = low i (omega arith)

-- the coefficients stay below p
pub added_below : {p c k n : ℕ} {xs b ys : List ℕ} → 0 < p → Added p c k n xs b ys → Below p xs → Below p ys
added_below {p} {c} {k} {n} {xs} {b} {ys} some a h = from_split (λ i. get_or ys i 0 < p) k (λ j l. subst (λ x. x < p) (sym (a.below j l)) (h j)) (λ j. go j (dec_lt j n))
  where
    go : (j : ℕ) → Dec (j < n) → get_or ys (k + j) 0 < p
    go j (yes l) = subst (λ x. x < p) (sym (a.within j l)) (Nat.mod-lt _ some)
    go j (no l) = subst (λ x. x < p) (sym (a.above (k + j) (omega arith))) (h (k + j))

-- eight sums, one for each place
pub added_each : {p c : ℕ} (xs b ys : List ℕ) → ((j : ℕ) → j < 8 → get_or ys j 0 ≡ (get_or xs j 0 + c * get_or b j 0) % p) → ZeroFrom 8 xs → ZeroFrom 8 ys → Added p c 0 8 xs b ys
added_each xs b ys each start end = record {
  below = λ j l. absurd (omega arith);
  within = λ j l. rw (Nat.zero-add j) (each j l);
  above = λ j l. end j l ∙ sym (start j l);
}

-- where all eight are sums they are below p, whatever was added to
pub sums_below : {p c : ℕ} {xs b ys : List ℕ} → 0 < p → Added p c 0 8 xs b ys → ZeroFrom 8 xs → Below p ys
sums_below {p} {c} {xs} {b} {ys} some a z i = go (dec_lt i 8)
  where
    go : Dec (i < 8) → get_or ys i 0 < p
    go (yes l) = subst (λ x. x < p) (sym (rw (Nat.zero-add i) at (a.within i l))) (Nat.mod-lt _ some)
    go (no l) = subst (λ x. x < p) (sym (a.above i (omega arith) ∙ z i (omega arith))) some

module _ {K : Type 0} {𝓚 : Field K} {d : Digits 𝓚} {p : ℕ} (L : Modulo 𝓚 d p) where
  -- the polynomial c x^k times b is added
  pub added_poly : {c k n : ℕ} {xs b ys : List ℕ} → Added p c k n xs b ys → Below p ys → Below 256 xs → Below 256 b → ZeroFrom n b
      → from_word 𝓚 d (number ys) ≡ plus 𝓚 (from_word 𝓚 d (number xs)) (times 𝓚 (monomial 𝓚 (d.element c) k) (from_word 𝓚 d (number b)))
  added_poly {c} {k} {n} {xs} {b} {ys} a small h hb z = poly_is L ys _ small (from_split Same k low (λ j. high j (dec_lt j n)))
    where
      Same : ℕ → Type 0
      Same i = d.element (get_or ys i 0) ≡ (plus 𝓚 (from_word 𝓚 d (number xs)) (times 𝓚 (monomial 𝓚 (d.element c) k) (from_word 𝓚 d (number b)))).coefficient i

      parts : (i : ℕ) (x : K) → (times 𝓚 (monomial 𝓚 (d.element c) k) (from_word 𝓚 d (number b))).coefficient i ≡ x → 𝓚.ring.add (d.element (get_or xs i 0)) x ≡ (plus 𝓚 (from_word 𝓚 d (number xs)) (times 𝓚 (monomial 𝓚 (d.element c) k) (from_word 𝓚 d (number b)))).coefficient i
      parts i x e = sym (coefficient_plus 𝓚 _ _ i ∙ ap₂ 𝓚.ring.add (coefficient_byte L xs h i) e)

      low : (j : ℕ) → j < k → Same j
      low j l = ap d.element (a.below j l) ∙ sym (Ring.add-zero 𝓚.ring _) ∙ parts j 𝓚.ring.zero (coefficient_shift_below 𝓚 (d.element c) k _ j l)

      product : (j : ℕ) → (times 𝓚 (monomial 𝓚 (d.element c) k) (from_word 𝓚 d (number b))).coefficient (k + j) ≡ d.element (c * get_or b j 0)
      product j = coefficient_shift 𝓚 (d.element c) k _ j ∙ ap (𝓚.ring.mul (d.element c)) (coefficient_byte L b hb j) ∙ sym (L.mul c (get_or b j 0))

      high : (j : ℕ) → Dec (j < n) → Same (k + j)
      high j (yes l) = ap d.element (a.within j l) ∙ element_mod L _ ∙ L.add _ _ ∙ parts (k + j) _ (product j)
      high j (no l) =
          ap d.element (a.above (k + j) (omega arith)) ∙ sym (Ring.add-zero 𝓚.ring _)
          ∙ parts (k + j) 𝓚.ring.zero (product j ∙ ap (λ x. d.element (c * x)) (z j (omega arith)) ∙ ap d.element (Nat.mul-zero c) ∙ element_zero 𝓚 d)
