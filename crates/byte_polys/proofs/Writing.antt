-- Coefficients written into a list. Assumes nothing.
use Rattle.std.proofs.Common.{◌≡◌, ℕ, ◌+◌, ◌*◌, ◌%◌, ◌<◌, ◌≤◌, List, length, get_or, set, take, drop, sym, ◌∙◌, subst, ap₂, length-take-le, rules, arith}
use native.Mathlib.Nat as Nat
use native.Mathlib.Decide.{ℕ_discrete}
use Rattle.std.proofs.lemmas.List.{get_or-set_same, get_or-set_other, places}
use borrow.Rule.Slice.PartMut.{put_mid}
use Rattle.byte_polys.specs.Steps.{Below, Added}

-- a coefficient below p keeps all below p
pub write_below : (p : ℕ) (xs : List ℕ) (k v : ℕ) → k < length xs → v < p → Below p xs → Below p (set xs k v)
write_below p xs k v l u h i = go (ℕ_discrete i k)
  where
    go : Dec (i ≡ k) → get_or (set xs k v) i 0 < p
    go (yes e) = subst (λ x. get_or (set xs k v) x 0 < p) (sym e) (subst (λ x. x < p) (sym (get_or-set_same xs k v 0 l)) u)
    go (no n) = subst (λ x. x < p) (sym (get_or-set_other xs k i v 0 n)) (h i)

-- what is added to the n elements of a list from the k-th on is added to the list
pub added_within : {p c : ℕ} (k m n : ℕ) (xs b ys : List ℕ) → k + n ≤ length xs → n ≤ length b → m ≡ n → length ys ≡ n → Added p c 0 (length (take n b)) (take m (drop k xs)) (take n b) ys → Added p c k n xs b (put_mid k m xs ys)
added_within {p} {c} k m n xs b ys room few same long a = record {
  below = λ j l. search (rules, places);
  within = λ j l.
      let at : get_or (put_mid k m xs ys) (k + j) 0 ≡ get_or ys j 0 = grind (arith, places) in
      let first : get_or (take m (drop k xs)) j 0 ≡ get_or xs (k + j) 0 = grind (arith, places) in
      let second : get_or (take n b) j 0 ≡ get_or b j 0 = grind (arith, places) in
      let sum = a.within j (omega (arith, length-take-le n b few)) in
      at ∙ (rw (Nat.zero-add j) at sum) ∙ ap₂ (λ x y. (x + c * y) % p) first second;
  above = λ j l. search (rules, places);
}
