-- Euclid's answer is the only one that its definition admits, and the end of the chain gives it. Assumes nothing.
use Rattle.std.proofs.Common.{◌≡◌, ℕ, true, sym, refl, ap, ◌∙◌, subst}
use mathlib.Mathlib.Algebra.Ring.Defs.{CommRing}
use Rattle.algebra.specs.Divisibility.{Divides, IsUnit, Congruent, GreatestCommonDivisor}
use Rattle.algebra.proofs.Ring.{mul_comm, mul_left_comm, mul-one}
use Rattle.algebra.proofs.Divides.{divides_self, divides_trans, divides_eq, divides_mul, divides_mul_left, unit_multiple_divides}
use Rattle.algebra.proofs.Congruence.{congruent_eq, congruent_self, congruent_symmetric, congruent_trans, congruent_mul, congruent_product, congruent_divides}
use Rattle.algebra.proofs.Bezout.{unit_decided}
use Rattle.algebra.proofs.Primes.{normal_unit, normal_gcd_unique}
use Rattle.domains.specs.Meaning.{Meaning, Laws, residue}
use Rattle.domains.specs.Answers.{NormalMultiple}
use Rattle.domains.specs.Euclid.{Descended, Outcome, is_zero, has_inverse, has_factor, InverseWord, FactorWord, Answers, Only}
use Rattle.domains.proofs.Remainders.{remainder_congruent, congruent_remainder, remainder_congruent_both, remainder_twice, residue_element}

module _ {M : Meaning} (L : Laws M) {m : M.Element} (legal : M.legal m ≡ true) (a : M.Element) where
  open M.euclidean.ring use {mul as ◌*◌, zero as 𝟘, one as 𝟙}

  infixl 70 ◌*◌
  abbrev 𝓡 : CommRing M.Element
  𝓡 = M.euclidean.ring

  -- an inverse gives 1 modulo m
  inverse_one : {w : ℕ} → InverseWord M m a w → Congruent 𝓡 m (a * M.element w) 𝟙
  inverse_one {w} p = remainder_congruent_both L legal (p.product ∙ sym (L.remainder_one m legal))

  -- there is only one inverse
  pub inverse_unique : (v w : ℕ) → InverseWord M m a v → InverseWord M m a w → v ≡ w
  inverse_unique v w p q = p.reduced ∙ ap M.word (congruent_remainder L legal same) ∙ sym q.reduced
    where
      -- x ≡ x (a y) ≡ (a x) y ≡ y
      same : Congruent 𝓡 m (M.element v) (M.element w)
      same =
          congruent_trans 𝓡 (congruent_eq 𝓡 (sym (mul-one 𝓡 (M.element v))))
          (congruent_trans 𝓡 (congruent_mul 𝓡 (M.element v) (congruent_symmetric 𝓡 (inverse_one q)))
          (congruent_trans 𝓡 (congruent_eq 𝓡 (turned (M.element v) (M.element w)))
          (congruent_trans 𝓡 (congruent_mul 𝓡 (M.element w) (inverse_one p)) (congruent_eq 𝓡 (mul-one 𝓡 (M.element w))))))
        where
          turned : (x y : M.Element) → x * (a * y) ≡ y * (a * x)
          turned x y = simp (mul_comm 𝓡, mul_left_comm 𝓡)

  factor_unique : (v w : ℕ) → FactorWord M m a v → FactorWord M m a w → v ≡ w
  factor_unique v w p q = sym p.spelled ∙ ap M.word (normal_gcd_unique L.euclidean a m (M.element v) (M.element w) p.normal q.normal p.greatest q.greatest) ∙ q.spelled

  -- two outcomes that both answer are equal
  pub answers_unique : (x y : Outcome) → Answers M m a x → Answers M m a y → x ≡ y
  answers_unique is_zero is_zero p q = refl
  answers_unique is_zero (has_inverse w) p q = absurd (q.0 p)
  answers_unique is_zero (has_factor w) p q = absurd (q.0 p)
  answers_unique (has_inverse v) is_zero p q = absurd (p.0 q)
  answers_unique (has_inverse v) (has_inverse w) p q = ap has_inverse (inverse_unique v w p.1 q.1)
  answers_unique (has_inverse v) (has_factor w) p q = absurd (q.1 v p.1)
  answers_unique (has_factor v) is_zero p q = absurd (p.0 q)
  answers_unique (has_factor v) (has_inverse w) p q = absurd (p.1 w q.1)
  answers_unique (has_factor v) (has_factor w) p q = ap has_factor (factor_unique v w p.2 q.2)

  -- so an outcome that answers is the only one
  pub only : (x : Outcome) → Answers M m a x → Only (Answers M m a) x
  only x p = record { holds = p; alone = λ y q. answers_unique y x q p }

  -- a greatest common divisor of m and an element congruent to a is one of m and a
  gcd_congruent : (b g : M.Element) → Congruent 𝓡 m a b → GreatestCommonDivisor 𝓡 b m g → GreatestCommonDivisor 𝓡 a m g
  gcd_congruent b g k h = record {
    divides_left = congruent_divides 𝓡 k h.divides_right h.divides_left;
    divides_right = h.divides_right;
    greatest = λ d p q. h.greatest d (congruent_divides 𝓡 (congruent_symmetric 𝓡 k) q p) q;
  }

  no_zero : (b : M.Element) → Congruent 𝓡 m a b → ¬ Divides 𝓡 m b → ¬ Divides 𝓡 m a
  no_zero b k n p = n (congruent_divides 𝓡 (congruent_symmetric 𝓡 k) (divides_self 𝓡 m) p)

  inverse_congruent : (b : M.Element) (w : ℕ) → Congruent 𝓡 m a b → InverseWord M m b w → InverseWord M m a w
  inverse_congruent b w k p = record { reduced = p.reduced; product = congruent_remainder L legal (congruent_product 𝓡 k (congruent_self 𝓡 (M.element w))) ∙ p.product }

  inverse_back : (b : M.Element) (w : ℕ) → Congruent 𝓡 m a b → InverseWord M m a w → InverseWord M m b w
  inverse_back b w k p = record { reduced = p.reduced; product = congruent_remainder L legal (congruent_product 𝓡 (congruent_symmetric 𝓡 k) (congruent_self 𝓡 (M.element w))) ∙ p.product }

  -- what the chain finds for an element congruent to a, it finds for a
  pub descended_congruent : (b g c : M.Element) → Congruent 𝓡 m a b → Descended M m b g c → Descended M m a g c
  descended_congruent b g c k h = record {
    greatest = gcd_congruent b g k h.greatest;
    multiple = congruent_trans 𝓡 h.multiple (congruent_mul 𝓡 c (congruent_symmetric 𝓡 k));
    not_zero = h.not_zero;
  }

  -- congruent elements have the same answers
  pub answers_congruent : (b : M.Element) (x : Outcome) → Congruent 𝓡 m a b → Answers M m b x → Answers M m a x
  answers_congruent b is_zero k p = congruent_divides 𝓡 k (divides_self 𝓡 m) p
  answers_congruent b (has_inverse w) k p = (no_zero b k p.0, inverse_congruent b w k p.1)
  answers_congruent b (has_factor w) k p = (
    no_zero b k p.0,
    (λ v i. p.1 v (inverse_back b v k i)),
    record {
      spelled = p.2.spelled;
      normal = p.2.normal;
      greatest = gcd_congruent b (M.element w) k p.2.greatest;
    },
  )

  -- The normal multiple n = u g of what the chain found, where m does not divide a.
  module _ (g : ℕ) (c : M.Element) (n u : ℕ) (found : Descended M m a (M.element g) c) (multiple : NormalMultiple M g n u) (not_zero : ¬ Divides 𝓡 m a) where
    normal_greatest : GreatestCommonDivisor 𝓡 a m (M.element n)
    normal_greatest =
        let down : Divides 𝓡 (M.element n) (M.element g) = subst (λ x. Divides 𝓡 x (M.element g)) (sym multiple.multiple) (unit_multiple_divides 𝓡 (M.element g) multiple.unit) in
        record {
          divides_left = divides_trans 𝓡 down found.greatest.divides_left;
          divides_right = divides_trans 𝓡 down found.greatest.divides_right;
          greatest = λ d p q. divides_eq 𝓡 (divides_mul_left 𝓡 (M.element u) (found.greatest.greatest d p q)) (sym multiple.multiple);
        }

    -- where n is legal it is no unit, so there is no inverse, and n is the factor
    pub answers_factor : M.legal (M.element n) ≡ true → M.word (M.element n) ≡ n → Answers M m a (has_factor n)
    answers_factor l s = (not_zero, none, record { spelled = s; normal = multiple.normal; greatest = normal_greatest })
      where
        none : (v : ℕ) → ¬ InverseWord M m a v
        none v p = L.legal_no_unit (M.element n) l (congruent_divides 𝓡 (congruent_symmetric 𝓡 (inverse_one p)) normal_greatest.divides_right (divides_mul 𝓡 (M.element v) normal_greatest.divides_left))

    -- where n is not legal it is a unit, so 1, and u c is the inverse
    pub answers_inverse : ¬ (M.legal (M.element n) ≡ true) → (w : ℕ) → w ≡ residue M m (M.element u * c) → Answers M m a (has_inverse w)
    answers_inverse l w w_is = (not_zero, record { reduced = reduced; product = product })
      where
        n_unit : IsUnit 𝓡 (M.element n)
        n_unit = elim (unit_decided L.euclidean (M.element n)) [ yes p ↦ p | no k ↦ absurd (l (L.legal_divisor m (M.element n) legal normal_greatest.divides_right multiple.normal k)) ]

        element_w : M.element w ≡ M.remainder m (M.element u * c)
        element_w = ap M.element w_is ∙ residue_element L legal (M.element u * c)

        reduced : w ≡ residue M m (M.element w)
        reduced = w_is ∙ ap M.word (sym (ap (M.remainder m) element_w ∙ remainder_twice L legal (M.element u * c)))

        turned : a * (M.element u * c) ≡ M.element u * (c * a)
        turned = simp (mul_comm 𝓡, mul_left_comm 𝓡)

        product : M.remainder m (a * M.element w) ≡ 𝟙
        product =
            congruent_remainder L legal
            (congruent_trans 𝓡 (congruent_mul 𝓡 a (congruent_trans 𝓡 (congruent_eq 𝓡 element_w) (congruent_symmetric 𝓡 (remainder_congruent L legal (M.element u * c)))))
            (congruent_trans 𝓡 (congruent_eq 𝓡 turned)
            (congruent_trans 𝓡 (congruent_mul 𝓡 (M.element u) (congruent_symmetric 𝓡 found.multiple)) (congruent_eq 𝓡 (sym multiple.multiple ∙ normal_unit L.euclidean (M.element n) n_unit multiple.normal)))))
            ∙ L.remainder_one m legal
