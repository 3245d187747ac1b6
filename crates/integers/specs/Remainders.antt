-- The remainder modulo k: it differs from its number by a multiple of k, it is below k, and two numbers have the same
-- remainder exactly when k divides their difference. Assumes nothing.
use Rattle.std.specs.Prelude.{◌≡◌, ℕ, suc, ◌+◌, ◌-◌, ◌*◌, ◌/◌, ◌%◌, ◌<◌, ℤ, pos, negsuc, ◌+ℤ◌, ◌*ℤ◌, neg_ℤ, unsigned_abs}
use Rattle.std.proofs.Common.{sym, ap, ◌∙◌, subst, arith}
use Rattle.std.proofs.Math.Nat as Nat
use Rattle.std.proofs.Math.Decide.{ℕ_discrete}
use Rattle.std.proofs.Math.IntN.{neg_ℤ-+ℤ, +ℤ_invr, +ℤ_invl, +ℤ_idr, +ℤ_idl, +ℤ_comm, +ℤ_assoc, *ℤ-zero}
use Rattle.algebra.specs.Divisibility.{minus, Congruent}
use Rattle.algebra.proofs.Ring.{sub_eq, sub_zero_eq}
use Rattle.algebra.proofs.Congruence.{congruent_symmetric, congruent_trans}
use Rattle.integers.specs.Ring.{ring}
use Rattle.integers.specs.Integers.{wrapped}
use Rattle.integers.specs.Sizes.{abs_mul, abs_zero, abs_difference}

-- −(m + r) + r is −m
add_back : (m r : ℕ) → neg_ℤ (pos (m + r)) +ℤ pos r ≡ neg_ℤ (pos m)
add_back m r =
    ap (λ x. x +ℤ pos r) (neg_ℤ-+ℤ (pos m) (pos r)) ∙ +ℤ_assoc (neg_ℤ (pos m)) (neg_ℤ (pos r)) (pos r) ∙ ap (λ x. neg_ℤ (pos m) +ℤ x) (+ℤ_comm (neg_ℤ (pos r)) (pos r) ∙ +ℤ_invr (pos r)) ∙ +ℤ_idr (neg_ℤ (pos m))

-- a number is the sum of a multiple of k and its remainder
pub wrapped_sum : (k : ℕ) → 0 < k → (a : ℤ) → (c : ℤ) × (a ≡ pos k *ℤ c +ℤ pos (wrapped k a))
wrapped_sum k h (pos n) = (pos (n / k), ap pos (sym (Nat.div-add-mod n k)))
wrapped_sum k h (negsuc n) =
    (negsuc (n / k), sym (ap (λ x. neg_ℤ (pos x) +ℤ pos ((k - 1) - n % k)) count ∙ add_back (suc n) ((k - 1) - n % k)))
  where
    count : k * suc (n / k) ≡ suc n + ((k - 1) - n % k)
    count = omega (arith, Nat.mul-suc k (n / k), Nat.div-add-mod n k, Nat.mod-lt n h)

-- so it differs from its remainder by a multiple of k
pub wrapped_differs : (k : ℕ) → 0 < k → (a : ℤ) → Congruent ring (pos k) a (pos (wrapped k a))
wrapped_differs k h a =
    let s = wrapped_sum k h a in
    (s.0, sym (sub_eq ring a (pos (wrapped k a)) (pos k *ℤ s.0) (s.1 ∙ +ℤ_comm (pos k *ℤ s.0) (pos (wrapped k a)))))

-- a remainder is below k
pub wrapped_below : (k : ℕ) → 0 < k → (a : ℤ) → wrapped k a < k
wrapped_below k h (pos n) = Nat.mod-lt n h
wrapped_below k h (negsuc n) = omega arith

-- two numbers below k that differ by a multiple of k are equal
below_equal : (k x y : ℕ) → x < k → y < k → Congruent ring (pos k) (pos x) (pos y) → x ≡ y
below_equal k x y h g p = ap unsigned_abs (sub_zero_eq ring (pos x) (pos y) none)
  where
    small : k * unsigned_abs p.0 < k
    small = subst (λ z. z < k) (sym (ap unsigned_abs p.1) ∙ abs_mul (pos k) p.0) (abs_difference k x y h g)

    factor : Dec (unsigned_abs p.0 ≡ 0) → unsigned_abs p.0 ≡ 0
    factor (yes e) = e
    factor (no n) = absurd (omega (arith, small, Nat.le-mul_of_pos_right {m = unsigned_abs p.0} k (Nat.pos_of_ne-zero n)))

    none : minus ring (pos x) (pos y) ≡ pos 0
    none = sym p.1 ∙ ap (λ z. pos k *ℤ z) (abs_zero p.0 (factor (ℕ_discrete (unsigned_abs p.0) 0))) ∙ *ℤ-zero (pos k)

-- numbers that differ by a multiple of k have the same remainder
pub wrapped_equal : (k : ℕ) → 0 < k → (a b : ℤ) → Congruent ring (pos k) a b → wrapped k a ≡ wrapped k b
wrapped_equal k h a b p =
    let x = pos (wrapped k a) in
    let y = pos (wrapped k b) in
    let back : Congruent ring (pos k) x a = congruent_symmetric ring {m = pos k} {a = a} {b = x} (wrapped_differs k h a) in
    let on : Congruent ring (pos k) a y = congruent_trans ring {m = pos k} {a = a} {b = b} {c = y} p (wrapped_differs k h b) in
    below_equal k (wrapped k a) (wrapped k b) (wrapped_below k h a) (wrapped_below k h b) (congruent_trans ring {m = pos k} {a = x} {b = a} {c = y} back on)

-- and the other way round
pub equal_wrapped : (k : ℕ) → 0 < k → (a b : ℤ) → wrapped k a ≡ wrapped k b → Congruent ring (pos k) a b
equal_wrapped k h a b e =
    let x = pos (wrapped k a) in
    let down : Congruent ring (pos k) b x = subst (λ z. Congruent ring (pos k) b (pos z)) (sym e) (wrapped_differs k h b) in
    congruent_trans ring {m = pos k} {a = a} {b = x} {c = b} (wrapped_differs k h a) (congruent_symmetric ring {m = pos k} {a = b} {b = x} down)

-- a − b has the same remainder as a + (k − b % k), which is not negative
pub wrapped_difference : (k a b : ℕ) → 0 < k → (a + (k - b % k)) % k ≡ wrapped k (pos a +ℤ neg_ℤ (pos b))
wrapped_difference k a b h = wrapped_equal k h (pos (a + s)) (pos a +ℤ neg_ℤ (pos b)) (pos (1 + b / k), sym multiple)
  where
    s : ℕ
    s = k - b % k

    count : k * (1 + b / k) ≡ b + s
    count = omega (arith, Nat.mul-add k 1 (b / k), Nat.div-add-mod b k, Nat.mod-lt b h)

    gone : neg_ℤ (pos b) +ℤ pos (b + s) ≡ pos s
    gone = sym (+ℤ_assoc (neg_ℤ (pos b)) (pos b) (pos s)) ∙ ap (λ x. x +ℤ pos s) (+ℤ_invl (pos b)) ∙ +ℤ_idl (pos s)

    sum : pos (a + s) ≡ (pos a +ℤ neg_ℤ (pos b)) +ℤ pos (k * (1 + b / k))
    sum = sym (ap (λ x. (pos a +ℤ neg_ℤ (pos b)) +ℤ pos x) count ∙ +ℤ_assoc (pos a) (neg_ℤ (pos b)) (pos (b + s)) ∙ ap (λ x. pos a +ℤ x) gone)

    multiple : minus ring (pos (a + s)) (pos a +ℤ neg_ℤ (pos b)) ≡ pos k *ℤ pos (1 + b / k)
    multiple = sub_eq ring (pos (a + s)) (pos a +ℤ neg_ℤ (pos b)) (pos (k * (1 + b / k))) sum
