-- Long division on lists of coefficients: what is known when the coefficients from x^top on have been taken away. Assumes nothing.
use Rattle.std.proofs.Common.{◌≡◌, ℕ, ◌+◌, ◌-◌, ◌*◌, ◌%◌, ◌<◌, ◌≤◌, ◌≢◌, List, length, get_or, set, sym, ap, ◌∙◌, subst, ap₂, arith}
use native.Mathlib.Nat as Nat
use native.Mathlib.Decide.{ℕ_discrete}
use Rattle.std.proofs.lemmas.List.{get_or-set_same, get_or-set_other}
use Rattle.algebra.specs.Field.{Field}
use Rattle.algebra.proofs.Ring
use Rattle.polynomials.specs.Polynomial.{Polynomial, monomial, plus, negative, times}
use Rattle.polynomials.specs.Words.{Digits, element_zero, from_word}
use Rattle.polynomials.proofs.Coefficients.{coefficient_plus, coefficient_negative, coefficient_monomial, coefficient_monomial_other}
use Rattle.polynomials.proofs.Equality.{extensional}
use Rattle.polynomials.proofs.Ring.{polynomial_ring}
use Rattle.byte_polys.specs.ByteField.{number}
use Rattle.byte_polys.specs.Steps.{Below, ZeroFrom, Divisor, Added}
use Rattle.byte_polys.specs.Bytes.{Modulo, below_byte, coefficient_below, element_mod, element_neg, equal_element, below_zero, poly_is, bytes_zero}
use Rattle.byte_polys.proofs.Adding.{added_below, added_poly}
use Rattle.byte_polys.proofs.Writing.{write_below}

module _ {K : Type 0} {𝓚 : Field K} {d : Digits 𝓚} {p : ℕ} (L : Modulo 𝓚 d p) where
  -- The quotient has been written from x^(top − n) on, the rest ends below x^top, and quotient times divisor and the rest
  -- are what was to be divided.
  pub record Stage (b : List ℕ) (n top : ℕ) (start quotient rest : List ℕ) : Type 0 where
    pub quotient_below : Below p quotient
    pub rest_below : Below p rest
    pub unwritten : (j : ℕ) → j + n < top → get_or quotient j 0 ≡ 0
    pub done : ZeroFrom top rest
    pub sum : from_word 𝓚 d (number start) ≡ plus 𝓚 (times 𝓚 (from_word 𝓚 d (number quotient)) (from_word 𝓚 d (number b))) (from_word 𝓚 d (number rest))

  -- before the first turn nothing has been written
  pub stage_start : (b : List ℕ) (n top : ℕ) (start quotient : List ℕ) → Below p start → ZeroFrom 0 quotient → ZeroFrom top start → Stage b n top start quotient start
  stage_start b n top start quotient h z past = record {
    quotient_below = λ i. let e = z i (omega arith) in let s = L.positive in omega arith;
    rest_below = h;
    unwritten = λ j l. z j (omega arith);
    done = past;
    sum =
        sym (Ring.zero-add (polynomial_ring 𝓚) _)
        ∙ ap (λ x. plus 𝓚 x (from_word 𝓚 d (number start))) (sym (Ring.zero-mul (polynomial_ring 𝓚) _) ∙ ap (λ x. times 𝓚 x (from_word 𝓚 d (number b))) (sym (bytes_zero L quotient (λ i. z i (omega arith)))));
  }

  -- where the highest coefficient that is left is 0, nothing is to do
  pub stage_skip : (end : ℕ) {b : List ℕ} {n : ℕ} {start quotient rest : List ℕ} → get_or rest (end - 1) 0 ≡ 0 → Stage b n end start quotient rest → Stage b n (end - 1) start quotient rest
  stage_skip end {rest = rest} e s = record {
    quotient_below = s.quotient_below;
    rest_below = s.rest_below;
    unwritten = λ j l. s.unwritten j (omega arith);
    done = λ i l. gone i l (ℕ_discrete i (end - 1));
    sum = s.sum;
  }
    where
      gone : (i : ℕ) → end - 1 ≤ i → Dec (i ≡ end - 1) → get_or rest i 0 ≡ 0
      gone i l (yes same) = subst (λ x. get_or rest x 0 ≡ 0) (sym same) e
      gone i l (no ne) = s.done i (omega arith)

  -- the negative of c x^k
  pub monomial_negative : (c : K) (k : ℕ) → monomial 𝓚 (𝓚.ring.neg c) k ≡ negative 𝓚 (monomial 𝓚 c k)
  monomial_negative c k = extensional 𝓚 _ _ (λ i. go i (ℕ_discrete i k))
    where
      go : (i : ℕ) → Dec (i ≡ k) → (monomial 𝓚 (𝓚.ring.neg c) k).coefficient i ≡ (negative 𝓚 (monomial 𝓚 c k)).coefficient i
      go i (yes e) =
          subst (λ j. (monomial 𝓚 (𝓚.ring.neg c) k).coefficient j ≡ (negative 𝓚 (monomial 𝓚 c k)).coefficient j) (sym e)
          (coefficient_monomial 𝓚 _ k ∙ ap 𝓚.ring.neg (sym (coefficient_monomial 𝓚 c k)) ∙ sym (coefficient_negative 𝓚 _ k))
      go i (no ne) =
          coefficient_monomial_other 𝓚 _ k i ne ∙ sym (Ring.neg_zero 𝓚.ring) ∙ ap 𝓚.ring.neg (sym (coefficient_monomial_other 𝓚 c k i ne)) ∙ sym (coefficient_negative 𝓚 _ i)

  -- writing c at an empty place adds c x^k
  written_poly : (quotient : List ℕ) (k c : ℕ) → k < length quotient → c < p → Below p quotient → get_or quotient k 0 ≡ 0
      → from_word 𝓚 d (number (set quotient k c)) ≡ plus 𝓚 (from_word 𝓚 d (number quotient)) (monomial 𝓚 (d.element c) k)
  written_poly quotient k c room small h empty = poly_is L (set quotient k c) _ (write_below p quotient k c room small h) (λ i. go i (ℕ_discrete i k))
    where
      Same : ℕ → Type 0
      Same i = d.element (get_or (set quotient k c) i 0) ≡ (plus 𝓚 (from_word 𝓚 d (number quotient)) (monomial 𝓚 (d.element c) k)).coefficient i

      go : (i : ℕ) → Dec (i ≡ k) → Same i
      go i (yes e) =
          subst Same (sym e)
          (ap d.element (get_or-set_same quotient k c 0 room)
          ∙ sym (coefficient_plus 𝓚 _ _ k ∙ ap₂ 𝓚.ring.add (coefficient_below L quotient h k ∙ ap d.element empty ∙ element_zero 𝓚 d) (coefficient_monomial 𝓚 _ k) ∙ Ring.zero-add 𝓚.ring _))
      go i (no ne) =
          ap d.element (get_or-set_other quotient k i c 0 ne)
          ∙ sym (coefficient_plus 𝓚 _ _ i ∙ ap₂ 𝓚.ring.add (coefficient_below L quotient h i) (coefficient_monomial_other 𝓚 _ k i ne) ∙ Ring.add-zero 𝓚.ring _)

  -- with the multiple m of b added to the quotient's part and taken from the rest the sum is the same
  moved : (q b r m : Polynomial 𝓚) → plus 𝓚 (times 𝓚 q b) r ≡ plus 𝓚 (times 𝓚 (plus 𝓚 q m) b) (plus 𝓚 r (times 𝓚 (negative 𝓚 m) b))
  moved q b r m =
      sym
      (ap₂ (plus 𝓚) (Ring.add_mul (polynomial_ring 𝓚) q m b) (ap (plus 𝓚 r) (Ring.neg_mul (polynomial_ring 𝓚) m b) ∙ Ring.add_comm (polynomial_ring 𝓚) r _)
      ∙ Ring.add_assoc (polynomial_ring 𝓚) (times 𝓚 q b) (times 𝓚 m b) _
      ∙ ap (plus 𝓚 (times 𝓚 q b)) (sym (Ring.add_assoc (polynomial_ring 𝓚) _ _ r) ∙ ap (λ x. plus 𝓚 x r) (Ring.add_neg (polynomial_ring 𝓚) (times 𝓚 m b)) ∙ Ring.zero-add (polynomial_ring 𝓚) r))

  module _ {b : List ℕ} {n inverse : ℕ} (D : Divisor p b n inverse) where
    -- the highest coefficient of the divisor times its inverse is 1
    lead_product : 𝓚.ring.mul (d.element (get_or b n 0)) (d.element inverse) ≡ 𝓚.ring.one
    lead_product = sym (L.mul _ _) ∙ equal_element L _ 1 (D.product ∙ sym (Nat.mod-eq_of_lt large)) ∙ L.one
      where
        large : 1 < p
        large = subst (λ x. x < p) D.product (Nat.mod-lt _ L.positive)

    -- the multiple that is taken away has the coefficient that was there
    top_gone : (x c : ℕ) → c ≤ p → c ≡ (0 + x * inverse) % p → d.element (x + (p - c) * get_or b n 0) ≡ 𝓚.ring.zero
    top_gone x c small e =
        L.add x _
        ∙ ap (𝓚.ring.add (d.element x)) (L.mul (p - c) _ ∙ ap (λ y. 𝓚.ring.mul y (d.element (get_or b n 0))) (element_neg L c small) ∙ Ring.neg_mul 𝓚.ring _ _ ∙ ap 𝓚.ring.neg same)
        ∙ Ring.add_neg 𝓚.ring (d.element x)
      where
        same : 𝓚.ring.mul (d.element c) (d.element (get_or b n 0)) ≡ d.element x
        same =
            ap (λ y. 𝓚.ring.mul y (d.element (get_or b n 0))) (ap d.element e ∙ element_mod L _ ∙ ap d.element (Nat.zero-add (x * inverse)) ∙ L.mul x inverse)
            ∙ Ring.mul_assoc 𝓚.ring _ _ _
            ∙ ap (𝓚.ring.mul (d.element x)) (Ring.mul_comm 𝓚.ring _ _ ∙ lead_product)
            ∙ Ring.mul-one 𝓚.ring _

    -- one turn
    pub stage_next : (end c : ℕ) {start quotient rest rest' : List ℕ} → n < end → end - 1 - n < length quotient → c ≡ (0 + get_or rest (end - 1) 0 * inverse) % p
        → Stage b n end start quotient rest → Added p (p - c) (end - 1 - n) (n + 1) rest b rest' → Stage b n (end - 1) start (set quotient (end - 1 - n) c) rest'
    stage_next end c {start} {quotient} {rest} {rest'} high room c_is s a = record {
      quotient_below = write_below p quotient k c room small s.quotient_below;
      rest_below = added_below L.positive a s.rest_below;
      unwritten = λ j l. let ne : j ≢ k = omega arith in get_or-set_other quotient k j c 0 ne ∙ s.unwritten j (omega arith);
      done = λ i l. gone i l (ℕ_discrete i top);
      sum = s.sum ∙ moved _ _ _ _ ∙ ap₂ (λ x y. plus 𝓚 (times 𝓚 x (from_word 𝓚 d (number b))) y) (sym written) (sym less);
    }
      where
        top : ℕ
        top = end - 1

        k : ℕ
        k = top - n

        small : c < p
        small = subst (λ x. x < p) (sym c_is) (Nat.mod-lt _ L.positive)

        written : from_word 𝓚 d (number (set quotient k c)) ≡ plus 𝓚 (from_word 𝓚 d (number quotient)) (monomial 𝓚 (d.element c) k)
        written = written_poly quotient k c room small s.quotient_below (s.unwritten k (omega arith))

        less : from_word 𝓚 d (number rest') ≡ plus 𝓚 (from_word 𝓚 d (number rest)) (times 𝓚 (negative 𝓚 (monomial 𝓚 (d.element c) k)) (from_word 𝓚 d (number b)))
        less =
            added_poly L a (added_below L.positive a s.rest_below) (below_byte L rest s.rest_below) (below_byte L b D.below) D.above
            ∙ ap (λ x. plus 𝓚 (from_word 𝓚 d (number rest)) (times 𝓚 x (from_word 𝓚 d (number b)))) (ap (λ x. monomial 𝓚 x k) (element_neg L c (omega arith)) ∙ monomial_negative (d.element c) k)

        at_top : k + n ≡ top
        at_top = omega arith

        zero_top : get_or rest' top 0 ≡ 0
        zero_top =
            below_zero L (get_or rest' top 0) (added_below L.positive a s.rest_below top)
            (ap d.element (subst (λ i. get_or rest' i 0 ≡ (get_or rest i 0 + (p - c) * get_or b n 0) % p) at_top (a.within n (omega arith))) ∙ element_mod L _ ∙ top_gone (get_or rest top 0) c (omega arith) c_is)

        gone : (i : ℕ) → top ≤ i → Dec (i ≡ top) → get_or rest' i 0 ≡ 0
        gone i l (yes e) = subst (λ x. get_or rest' x 0 ≡ 0) (sym e) zero_top
        gone i l (no ne) = a.above i (omega arith) ∙ s.done i (omega arith)
