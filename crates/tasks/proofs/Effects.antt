-- What commands do modulo m: at most one thing, modulo an irreducible always one, and the same modulo a divisor of m.
-- Assumes nothing.
use Rattle.std.proofs.Common.{◌≡◌, ℕ, ◌<◌, true, ◌⊎◌, List, map, length, set, sym, refl, ap, ◌∙◌, subst, inl, inr, arith}
use mathlib.Mathlib.Algebra.Ring.Defs.{CommRing}
use Rattle.std.proofs.lemmas.List.{get_or-map, map-set}
use Rattle.algebra.specs.Divisibility.{Divides, Irreducible, Coprime, Congruent}
use Rattle.algebra.proofs.Ring.{mul_comm, sub_eq, add_comm}
use Rattle.algebra.proofs.Divides.{divides_self, divides_trans, divides_mul}
use Rattle.algebra.proofs.Congruence.{congruent_eq, congruent_self, congruent_symmetric, congruent_trans, congruent_add, congruent_sub, congruent_product, congruent_mul, congruent_divisor, congruent_divides}
use Rattle.algebra.proofs.Primes.{irreducible_or, coprime_sum}
use Rattle.domains.specs.Answers.{sum, difference, times}
use Rattle.domains.specs.Meaning.{Meaning, Laws, residue}
use Rattle.domains.proofs.Outcomes.{inverse_unique}
use Rattle.domains.proofs.Remainders.{congruent_remainder, remainder_congruent_both, remainder_twice, residue_element, residue_congruent}
use Rattle.tasks.specs.Commands.{Allowed}
use Rattle.tasks.specs.Machine.{Effect, moves, ends, cell, ZeroCell, InverseOf, Does}
use Rattle.tasks.specs.declared.command.Command.{Command}
use Rattle.tasks.specs.declared.command.Command.TheVariants.{Set, Copy, Add, Subtract, Multiply, Invert, Test, Go, End}

module _ {M : Meaning} (L : Laws M) {m : M.Element} (legal : M.legal m ≡ true) where
  open M.euclidean.ring use {add as ◌+◌, mul as ◌*◌, zero as 𝟘, one as 𝟙}

  infixl 65 ◌+◌
  infixl 70 ◌*◌
  abbrev 𝓡 : CommRing M.Element
  𝓡 = M.euclidean.ring

  -- an element that m divides has no inverse
  pub zero_no_inverse : (c w : ℕ) → ZeroCell M m c → InverseOf M m c w → ⊥
  zero_no_inverse c w z i =
      L.legal_no_unit m legal (congruent_divides 𝓡 (congruent_symmetric 𝓡 (remainder_congruent_both L legal (i.product ∙ sym (L.remainder_one m legal)))) (divides_self 𝓡 m) (divides_mul 𝓡 (M.element w) z))

  -- a command has at most one effect
  pub does_unique : (c : Command) (cs : List ℕ) (e f : Effect) → Does M m c cs e → Does M m c cs f → e ≡ f
  does_unique (Set d n w) cs e f p q = p ∙ sym q
  does_unique (Copy d a n) cs e f p q = p ∙ sym q
  does_unique (Add d a b n) cs e f p q = p ∙ sym q
  does_unique (Subtract d a b n) cs e f p q = p ∙ sym q
  does_unique (Multiply d a b n) cs e f p q = p ∙ sym q
  does_unique (Invert d a n) cs e f (inl p) (inl q) = p.1 ∙ sym q.1
  does_unique (Invert d a n) cs e f (inl p) (inr q) = absurd (zero_no_inverse (cell cs a) q.0 p.0 q.1)
  does_unique (Invert d a n) cs e f (inr p) (inl q) = absurd (zero_no_inverse (cell cs a) p.0 q.0 p.1)
  does_unique (Invert d a n) cs e f (inr p) (inr q) = p.2 ∙ ap (λ w. moves n (set cs d w)) (inverse_unique L legal (M.element (cell cs a)) p.0 q.0 p.1 q.1) ∙ sym q.2
  does_unique (Test a z o) cs e f (inl p) (inl q) = p.1 ∙ sym q.1
  does_unique (Test a z o) cs e f (inl p) (inr q) = absurd (zero_no_inverse (cell cs a) q.0 p.0 q.1)
  does_unique (Test a z o) cs e f (inr p) (inl q) = absurd (zero_no_inverse (cell cs a) p.0 q.0 p.1)
  does_unique (Test a z o) cs e f (inr p) (inr q) = p.2 ∙ sym q.2
  does_unique (Go n) cs e f p q = p ∙ sym q
  does_unique (End k) cs e f p q = p ∙ sym q

  -- modulo an irreducible, a cell is 0 or has an inverse
  pub zero_or_inverse : Irreducible 𝓡 m → (c : ℕ) → ZeroCell M m c ⊎ ((w : ℕ) × InverseOf M m c w)
  zero_or_inverse i c = elim (irreducible_or L.euclidean m (M.element c) i) [ inl d ↦ inl d | inr k ↦ inr (found k) ]
    where
      found : Coprime 𝓡 m (M.element c) → (w : ℕ) × InverseOf M m c w
      found k =
          let z = coprime_sum L.euclidean m (M.element c) k in
          let t = z.1 in
          let sum_is : 𝟙 ≡ M.element c * t + m * z.0 = sym z.2 ∙ add_comm 𝓡 (z.0 * m) (t * M.element c) ∙ ap (λ x. x + z.0 * m) (mul_comm 𝓡 t (M.element c)) ∙ ap (λ x. M.element c * t + x) (mul_comm 𝓡 z.0 m) in
          let one_is : Congruent 𝓡 m 𝟙 (M.element c * t) = (z.0, sym (sub_eq 𝓡 𝟙 (M.element c * t) (m * z.0) sum_is)) in (
            residue M m t,
            record {
              reduced = ap M.word (sym (ap (M.remainder m) (residue_element L legal t) ∙ remainder_twice L legal t));
              product = congruent_remainder L legal (congruent_trans 𝓡 (congruent_mul 𝓡 (M.element c) (congruent_symmetric 𝓡 (residue_congruent L legal t))) (congruent_symmetric 𝓡 one_is)) ∙ L.remainder_one m legal;
            },
          )

  -- so a command always has an effect
  pub does_something : Irreducible 𝓡 m → (c : Command) (cs : List ℕ) → (e : Effect) × Does M m c cs e
  does_something i (Set d n w) cs = (_, refl)
  does_something i (Copy d a n) cs = (_, refl)
  does_something i (Add d a b n) cs = (_, refl)
  does_something i (Subtract d a b n) cs = (_, refl)
  does_something i (Multiply d a b n) cs = (_, refl)
  does_something i (Invert d a n) cs = elim (zero_or_inverse i (cell cs a)) [ inl z ↦ (ends 255, inl (z, refl)) | inr w ↦ (moves n (set cs d w.0), inr (w.0, w.1, refl)) ]
  does_something i (Test a z o) cs = elim (zero_or_inverse i (cell cs a)) [ inl y ↦ (moves z cs, inl (y, refl)) | inr w ↦ (moves o cs, inr (w.0, w.1, refl)) ]
  does_something i (Go n) cs = (_, refl)
  does_something i (End k) cs = (_, refl)

-- an effect, with each cell reduced by g
abbrev pub reduced_effect : (M : Meaning) → M.Element → Effect → Effect
reduced_effect M g (moves n cs) = moves n (map (λ w. residue M g (M.element w)) cs)
reduced_effect M g (ends c) = ends c

module _ {M : Meaning} (L : Laws M) {m g : M.Element} (legal_m : M.legal m ≡ true) (legal_g : M.legal g ≡ true) (divides : Divides M.euclidean.ring g m) where
  abbrev 𝓢 : CommRing M.Element
  𝓢 = M.euclidean.ring

  abbrev pub down : ℕ → ℕ
  down w = residue M g (M.element w)

  -- a word and its residue are congruent modulo g
  down_congruent : (w : ℕ) → Congruent 𝓢 g (M.element w) (M.element (down w))
  down_congruent w = residue_congruent L legal_g (M.element w)

  -- the residue modulo g of a residue modulo m is that of what is congruent modulo g
  pub down_residue : (x y : M.Element) → Congruent 𝓢 g x y → down (residue M m x) ≡ residue M g y
  down_residue x y k =
      ap M.word (congruent_remainder L legal_g (congruent_trans 𝓢 (congruent_symmetric 𝓢 (congruent_divisor 𝓢 divides (residue_congruent L legal_m x))) k))

  -- 0 stays 0, and an inverse stays an inverse
  zero_down : (c : ℕ) → ZeroCell M m c → ZeroCell M g (down c)
  zero_down c z = congruent_divides 𝓢 (congruent_symmetric 𝓢 (down_congruent c)) (divides_self 𝓢 g) (divides_trans 𝓢 divides z)

  inverse_down : (c w : ℕ) → InverseOf M m c w → InverseOf M g (down c) (down w)
  inverse_down c w i = record {
    reduced = ap M.word (sym (ap (M.remainder g) (residue_element L legal_g (M.element w)) ∙ remainder_twice L legal_g (M.element w)));
    product = congruent_remainder L legal_g (congruent_trans 𝓢 (congruent_product 𝓢 (congruent_symmetric 𝓢 (down_congruent c)) (congruent_symmetric 𝓢 (down_congruent w))) (congruent_divisor 𝓢 divides (remainder_congruent_both L legal_m (i.product ∙ sym (L.remainder_one m legal_m))))) ∙ L.remainder_one g legal_g;
  }

  module _ (cs : List ℕ) (full : length cs ≡ 64) where
    read : (i : ℕ) → i < 64 → down (cell cs i) ≡ cell (map down cs) i
    read i h = sym (get_or-map down cs i 0 0 (omega arith))

    -- two cells read after the reduction are congruent to those read before
    read_congruent : (i : ℕ) → i < 64 → Congruent 𝓢 g (M.element (cell cs i)) (M.element (cell (map down cs) i))
    read_congruent i h = congruent_trans 𝓢 (down_congruent (cell cs i)) (congruent_eq 𝓢 (ap M.element (read i h)))

    -- a cell that a command writes
    written : (n d x y : ℕ) → down x ≡ y → reduced_effect M g (moves n (set cs d x)) ≡ moves n (set (map down cs) d y)
    written n d x y e = ap (moves n) (map-set down cs d x ∙ ap (set (map down cs) d) e)

    -- what a command does modulo m, it does modulo g
    pub does_reduced : (c : Command) (e : Effect) → Allowed c → Does M m c cs e → Does M g c (map down cs) (reduced_effect M g e)
    does_reduced (Set d n w) e ok p = ap (reduced_effect M g) p ∙ written n d _ _ (down_residue (M.element w) (M.element w) (congruent_self 𝓢 (M.element w)))
    does_reduced (Copy d a n) e ok p = ap (reduced_effect M g) p ∙ written n d _ _ (read a ok.1)
    does_reduced (Add d a b n) e ok p = ap (reduced_effect M g) p ∙ written n d _ _ (down_residue (sum M (cell cs a) (cell cs b)) (sum M (cell (map down cs) a) (cell (map down cs) b)) (congruent_add 𝓢 (read_congruent a ok.1) (read_congruent b ok.2)))
    does_reduced (Subtract d a b n) e ok p = ap (reduced_effect M g) p ∙ written n d _ _ (down_residue (difference M (cell cs a) (cell cs b)) (difference M (cell (map down cs) a) (cell (map down cs) b)) (congruent_sub 𝓢 (read_congruent a ok.1) (read_congruent b ok.2)))
    does_reduced (Multiply d a b n) e ok p = ap (reduced_effect M g) p ∙ written n d _ _ (down_residue (times M (cell cs a) (cell cs b)) (times M (cell (map down cs) a) (cell (map down cs) b)) (congruent_product 𝓢 (read_congruent a ok.1) (read_congruent b ok.2)))
    does_reduced (Invert d a n) e ok (inl p) = inl (subst (ZeroCell M g) (read a ok.1) (zero_down (cell cs a) p.0), ap (reduced_effect M g) p.1)
    does_reduced (Invert d a n) e ok (inr p) = inr (down p.0, subst (λ x. InverseOf M g x (down p.0)) (read a ok.1) (inverse_down (cell cs a) p.0 p.1), ap (reduced_effect M g) p.2 ∙ written n d _ _ refl)
    does_reduced (Test a z o) e ok (inl p) = inl (subst (ZeroCell M g) (read a ok) (zero_down (cell cs a) p.0), ap (reduced_effect M g) p.1)
    does_reduced (Test a z o) e ok (inr p) = inr (down p.0, subst (λ x. InverseOf M g x (down p.0)) (read a ok) (inverse_down (cell cs a) p.0 p.1), ap (reduced_effect M g) p.2)
    does_reduced (Go n) e ok p = ap (reduced_effect M g) p
    does_reduced (End k) e ok p = ap (reduced_effect M g) p
