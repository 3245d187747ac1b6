-- Why it is enough to divide out the factors up to the cube root of a number, and then to see whether a square is left.
-- Assumes nothing.
use Rattle.std.proofs.Common.{◌≡◌, ℕ, ◌+◌, ◌*◌, ◌/◌, ◌%◌, ◌^◌, ◌<◌, ◌≤◌, Bool, true, false, not, ◌≢◌, ◌⊎◌, ℤ, pos, ◌*ℤ◌, nat_abs, sym, ap, ◌∙◌, subst, inl, inr, arith}
use native.Mathlib.Nat as Nat
use native.Mathlib.Decide.{dec_le, dec_lt, ℕ_discrete}
use lib.IntN.{*ℤ_comm}
use Rattle.algebra.specs.Divisibility.{Divides, IsUnit, Irreducible, Coprime}
use Rattle.algebra.proofs.Divides.{divides_product, coprime_symmetric}
use Rattle.algebra.proofs.Bezout.{factor_nonzero}
use Rattle.algebra.proofs.Primes.{irreducible_or, coprime_mul, coprime_divides}
use Rattle.domains.specs.Answers.{Decides}
use Rattle.integers.specs.Ring.{ring}
use Rattle.integers.specs.Squarefree.{NoSquareDivides, DividesTwice, IsSquare, Left}
use Rattle.integers.specs.Sizes.{abs_mul, nonzero}
use Rattle.integers.specs.EuclideanLaws.{laws}
use Rattle.integers.specs.Moduli.{non_unit_abs, abs_non_unit}
use Rattle.integers.specs.SquarefreeNumbers.{mod_divides, divides_mod, mod_trans}

-- What is known of n when the factors below d have been divided out and `rest` is left.
pub record Stage (n rest d : ℕ) : Type 0 where
  -- something is left
  pub some : 0 < rest
  -- it divides n
  pub part : n % rest ≡ 0
  -- no number from 2 below d divides it
  pub none_below : (k : ℕ) → 2 ≤ k → k < d → rest % k ≡ 0 → ⊥
  -- every square that divides n divides it
  pub squares : (k : ℕ) → 2 ≤ k → n % (k * k) ≡ 0 → rest % (k * k) ≡ 0

-- before anything is divided out
pub start : (n : ℕ) → 0 < n → Stage n n 2
start n h = record { some = h; part = Nat.mod_self n; none_below = λ k l u e. omega arith; squares = λ k l e. e }

-- d divides the rest: as nothing below d does, d is irreducible
least_irreducible : {n rest d : ℕ} → Stage n rest d → 2 ≤ d → rest % d ≡ 0 → Irreducible ring (pos d)
least_irreducible {n} {rest} {d} s h e = record { not_zero = nonzero (pos d) (omega arith); not_unit = abs_non_unit (pos d) h; no_product = split }
  where
    split : (b c : ℤ) → pos d ≡ b *ℤ c → ¬ IsUnit ring b → ¬ IsUnit ring c → ⊥
    split b c is nb nc =
        let ne : b *ℤ c ≢ pos 0 = λ z. nonzero (pos d) (omega arith) (is ∙ z) in
        let whole : nat_abs b * nat_abs c ≡ d = sym (abs_mul b c) ∙ sym (ap nat_abs is) in
        let first : 2 ≤ nat_abs b = non_unit_abs b (factor_nonzero laws b c ne) nb in
        let second : 2 ≤ nat_abs c = non_unit_abs c (factor_nonzero laws c b (λ z. ne (*ℤ_comm b c ∙ z))) nc in
        let divides : d % nat_abs b ≡ 0 = subst (λ x. x % nat_abs b ≡ 0) whole (Nat.mul-mod_right (nat_abs b) (nat_abs c)) in
        s.none_below (nat_abs b) first (omega (arith, Nat.mul-le-mul_left (nat_abs b) second)) (mod_trans (nat_abs b) d rest divides e)

-- what is left after d has no divisor from 2 to d
none_to : {n rest d : ℕ} (left : ℕ) → Stage n rest d → rest % left ≡ 0 → (left % d ≡ 0 → ⊥) → (k : ℕ) → 2 ≤ k → k < d + 1 → left % k ≡ 0 → ⊥
none_to {n} {rest} {d} left s part none k l u m = go (ℕ_discrete k d)
  where
    go : Dec (k ≡ d) → ⊥
    go (yes i) = none (subst (λ x. left % x ≡ 0) i m)
    go (no ne) = s.none_below k l (omega arith) (mod_trans k left rest m part)

-- d does not divide the rest
pass : {n rest d : ℕ} → Stage n rest d → (rest % d ≡ 0 → ⊥) → Stage n rest (d + 1)
pass {n} {rest} {d} s none = record { some = s.some; part = s.part; none_below = none_to rest s (Nat.mod_self rest) none; squares = s.squares }

-- d divides the rest once, and is divided out
divide_out : {n rest d : ℕ} → Stage n rest d → 2 ≤ d → rest % d ≡ 0 → (rest / d % d ≡ 0 → ⊥) → Stage n (rest / d) (d + 1)
divide_out {n} {rest} {d} s h e once = record {
  some = Nat.pos_of_ne-zero (λ z. omega (arith, whole, ap (λ x. d * x) z, Nat.mul-zero d, s.some));
  part = mod_trans (rest / d) rest n part s.part;
  none_below = none_to (rest / d) s part once;
  squares = λ k l m. square k (s.squares k l m) (irreducible_or laws (pos d) (pos k) (least_irreducible s h e));
}
  where
    whole : d * (rest / d) ≡ rest
    whole = omega (arith, Nat.div-add-mod rest d)

    part : rest % (rest / d) ≡ 0
    part = subst (λ x. x % (rest / d) ≡ 0) whole (Nat.mul-mod_left d (rest / d))

    again : rest % (d * d) ≡ 0 → rest / d % d ≡ 0
    again m =
        let j = rest / (d * d) in
        let up : d * (d * j) ≡ d * (rest / d) = omega (arith, Nat.mul_assoc d d j, Nat.div-add-mod rest (d * d), whole) in
        subst (λ x. x % d ≡ 0) (Nat.eq_of_mul-eq-mul_left d (omega arith) (d * j) (rest / d) up) (Nat.mul-mod_right d j)

    -- if d divides k, then d divides the rest twice; else d and k are coprime, and k² divides what is left
    square : (k : ℕ) → rest % (k * k) ≡ 0 → Divides ring (pos d) (pos k) ⊎ Coprime ring (pos d) (pos k) → rest / d % (k * k) ≡ 0
    square k m (inl p) =
        let twice : (k * k) % (d * d) ≡ 0 = divides_mod (d * d) (k * k) (divides_product ring {a = pos d} {b = pos k} {c = pos d} {d = pos k} p p) in
        absurd (once (again (mod_trans (d * d) (k * k) rest twice m)))
    square k m (inr c) =
        let apart : Coprime ring (pos (k * k)) (pos d) = coprime_symmetric ring {a = pos d} {b = pos (k * k)} (coprime_mul laws (pos d) (pos k) (pos k) c c) in
        divides_mod (k * k) (rest / d) (coprime_divides laws (pos (k * k)) (pos d) (pos (rest / d)) apart (subst (λ x. Divides ring (pos (k * k)) (pos x)) (sym whole) (mod_divides (k * k) rest m)))

-- after a turn of the loop
pub next : {n rest d left : ℕ} → Stage n rest d → 2 ≤ d → Left d rest left → Stage n left (d + 1)
next {n} {rest} {d} {left} s h l = go (ℕ_discrete (rest % d) 0)
  where
    go : Dec (rest % d ≡ 0) → Stage n left (d + 1)
    go (yes e) =
        let is = l.divided e in
        subst (λ x. Stage n x (d + 1)) (sym is) (divide_out s h e (λ m. l.none (rw is m)))
    go (no ne) = subst (λ x. Stage n x (d + 1)) (sym (l.kept ne)) (pass s ne)

-- what is left is not larger
pub left_below : {n d left : ℕ} → Left d n left → left ≤ n
left_below {n} {d} {left} l = go (ℕ_discrete (n % d) 0)
  where
    go : Dec (n % d ≡ 0) → left ≤ n
    go (yes e) = omega (arith, l.divided e, Nat.div-le_self n d)
    go (no ne) = omega (arith, l.kept ne)

-- d divides the rest twice: its square divides n
pub found_twice : {n rest d : ℕ} → Stage n rest d → 2 ≤ d → DividesTwice d rest → ¬ NoSquareDivides n
found_twice {n} {rest} {d} s h t free =
    let j = rest / d / d in
    let inner : d * j ≡ rest / d = omega (arith, t.second, Nat.div-add-mod (rest / d) d) in
    let whole : d * d * j ≡ rest = Nat.mul_assoc d d j ∙ ap (λ x. d * x) inner ∙ omega (arith, t.first, Nat.div-add-mod rest d) in
    free d h (mod_trans (d * d) rest n (subst (λ x. x % (d * d) ≡ 0) whole (Nat.mul-mod_right (d * d) j)) s.part)

-- the rest is a square, and divides n
found_square : {n rest d : ℕ} → Stage n rest d → IsSquare rest → ¬ NoSquareDivides n
found_square s q free = free q.0 q.1 (rw q.2 s.part)

-- if no number up to the cube root divides the rest, then k² times j is the rest only for j = 1
none_found : {n rest d : ℕ} → Stage n rest d → rest < d * d * d → ¬ IsSquare rest → NoSquareDivides n
none_found {n} {rest} {d} s small no-root k l e = go (ℕ_discrete j 0) (ℕ_discrete j 1)
  where
    j : ℕ
    j = rest / (k * k)

    q : rest % (k * k) ≡ 0
    q = s.squares k l e

    whole : k * k * j ≡ rest
    whole = omega (arith, q, Nat.div-add-mod rest (k * k))

    above : (x : ℕ) → 2 ≤ x → rest % x ≡ 0 → Dec (x < d) → d ≤ x
    above x h m (yes u) = absurd (s.none_below x h u m)
    above x h m (no u) = omega arith

    go : Dec (j ≡ 0) → Dec (j ≡ 1) → ⊥
    go (yes z) o = omega (arith, s.some, whole, ap (λ x. k * k * x) z, Nat.mul-zero (k * k))
    go (no z) (yes o) = no-root (k, l, sym (Nat.mul-one (k * k)) ∙ ap (λ x. k * k * x) (sym o) ∙ whole)
    go (no z) (no o) =
        let first : d ≤ k = above k l (mod_trans k (k * k) rest (Nat.mul-mod_right k k) q) (dec_lt k d) in
        let second : d ≤ j = above j (omega arith) (subst (λ x. x % j ≡ 0) whole (Nat.mul-mod_left (k * k) j)) (dec_lt j d) in
        omega (arith, Nat.mul-le-mul (Nat.mul-le-mul first first) second, whole, small)

-- where d has passed the cube root, a square divides n exactly when the rest is one
pub decided : {n rest d : ℕ} → Stage n rest d → rest < d * d * d → (r : Bool) → Decides r (IsSquare rest) → Decides (not r) (NoSquareDivides n)
decided s small true q = found_square s q
decided s small false q = none_found s small q

-- the integer root of a number is the only candidate for its root
pub only_root : (n r : ℕ) → r * r ≤ n → n < (r + 1) * (r + 1) → (q : IsSquare n) → r ≡ q.0
only_root n r low high q = go (dec_lt r k) (dec_lt k r)
  where
    k : ℕ
    k = q.0

    go : Dec (r < k) → Dec (k < r) → r ≡ k
    go (yes u) w =
        let h : r + 1 ≤ k = omega arith in
        absurd (omega (arith, q.2, Nat.mul-le-mul h h))
    go (no u) (yes w) =
        let h : k + 1 ≤ r = omega arith in
        absurd (omega (arith, q.2, Nat.mul-le-mul h h, Nat.mul-add (k + 1) k 1, Nat.add-mul k 1 k))
    go (no u) (no w) = omega arith

-- a cube below 2^31 is that of a number up to 1290
pub cube_root : (d : ℕ) → d * d * d < 2 ^ 31 → d ≤ 1290
cube_root d h = go (dec_le d 1290)
  where
    go : Dec (d ≤ 1290) → d ≤ 1290
    go (yes l) = l
    go (no n) =
        let u : 1291 ≤ d = omega arith in
        absurd (omega (arith, Nat.mul-le-mul (Nat.mul-le-mul u u) u))
