-- The laws of Euclid's answer hold. Assumes nothing.
use Rattle.std.proofs.Common.{◌≡◌, ℕ, Bool, true, false, cond, ◌&&◌, sym, refl, ap, ◌∙◌}
use Rattle.std.proofs.lemmas.Bool.Decides.{when_true}
use Rattle.std.proofs.lemmas.Bool.{and_from, and_parts}
use Rattle.algebra.specs.Divisibility.{Divides}
use Rattle.domains.specs.Answers.{IsZero, Normalized, Zeros, NormalMultiple, sum, times}
use Rattle.domains.specs.Chain.{Dividing, Found}
use Rattle.domains.specs.Euclid.{is_zero, has_inverse, has_factor}
use Rattle.domains.specs.EuclidLaws.{Answered, Reduced, Concluding, EuclidLaws}
use Rattle.domains.specs.Meaning.{Meaning, Laws, legal_word}
use Rattle.domains.specs.View.{View, Lawful, IsDifference, IsNormalMultiple, IsProduct, IsSum, OwnPair, OwnZero, shown_word}
use Rattle.domains.specs.declared.gcd.Answer.TheVariants.{Inverse, Factor}
use Rattle.domains.proofs.Calls.{when_each, at_true, answer_residue, legal_element, illegal_element, own_since_nonzero, reduced_congruent, reduced_zero}
use Rattle.domains.proofs.Outcomes.{only, descended_congruent, answers_factor, answers_inverse}
use Rattle.algebra.proofs.Congruence.{congruent_divides}
use Rattle.algebra.proofs.Divides.{divides_self, divides_zero, divides_eq}

module _ {V : Type 0} {N : Type 0} {D : View V N} (lawful : Lawful D) (k : N) (a : V) where
  abbrev M : Meaning
  M = D.meaning

  abbrev own : V → Bool
  own = D.own

  abbrev word : V → ℕ
  word = D.word

  abbrev own_m : Bool
  own_m = D.own_modulus k

  abbrev m : ℕ
  m = D.modulus_word k

  abbrev L : Laws M
  L = lawful.laws

  legal_both : (own a && own_m) ≡ true → M.legal (M.element m) ≡ true
  legal_both o = legal_element M m (lawful.sound k (and_parts (own a) own_m o).1).legal

  reduces : (z r : V) → IsDifference D a a k z → own z ≡ true → IsSum D a z k r → own r ≡ true → Reduced D k a r
  reduces z r z-is oz r-is or = record {
    own_reduced = or;
    congruent = λ o. reduced_congruent L m (own a) own_m (word a) (word z) (word r) o (legal_both o) z-is (own z) oz r-is;
    zero_reduced = λ o d. reduced_zero L m (own a) own_m (word a) (word z) (word r) o (legal_both o) z-is (own z) oz r-is d;
    own_nonzero = own_since_nonzero L m (own a) (own z) own_m (sum M (word a) (word z)) oz r-is;
  }

  -- where the reduced value is not 0, a and m are the domain's own, and m does not divide a
  module _ (r : V) (h : Reduced D k a r) (more : ¬ OwnZero D r) where
    nonzero : ¬ IsZero M (word r)
    nonzero z = more (h.own_reduced, z)

    own_both : (own a && own_m) ≡ true
    own_both = h.own_nonzero nonzero

    undivided : ¬ Divides M.euclidean.ring (M.element m) (M.element (word a))
    undivided d = nonzero (h.zero_reduced own_both d)

    dividing : Dividing D k r
    dividing = record { own_value = h.own_reduced; own_modulus = (and_parts (own a) own_m own_both).1; nonzero = nonzero }

    concluding : (g c : V) → Found D k r g c → Concluding D k a g c
    concluding g c found = record {
      own_both = own_both;
      undivided = undivided;
      found = record {
        own_divisor = found.own_divisor;
        own_cofactor = found.own_cofactor;
        descended = descended_congruent L (legal_both own_both) (M.element (word a)) (M.element (word r)) (M.element (word g)) (M.element (word c)) (h.congruent own_both) found.descended;
      };
    }

  module _ (g c n u : V) (w : ℕ) (h : Concluding D k a g c) (normal : IsNormalMultiple D g n u) (nu : OwnPair D n u) (w_is : w ≡ shown_word D n) where
    legal_m : M.legal (M.element m) ≡ true
    legal_m = legal_both h.own_both

    multiple : NormalMultiple M (word g) (word n) (word u)
    multiple = (when_true (Normalized M (word g) (word n) (word u)) (Zeros M (word n) (word u)) h.found.own_divisor normal).of_nonzero h.found.descended.not_zero

    word_is : w ≡ word n
    word_is = w_is ∙ ap (λ b. cond b (word n) 0) nu.0

    factor : true ≡ legal_word M w → Answered D k a (Factor (record { divisor = n }))
    factor l = record {
      own_answer = nu.0;
      answer = at_true _ _ h.own_both (only L legal_m (M.element (word a)) (has_factor (word n)) (answers_factor L legal_m (M.element (word a)) (word g) (M.element (word c)) (word n) (word u) h.found.descended multiple h.undivided (legal_element M (word n) (ap (legal_word M) (sym word_is) ∙ sym l)) (lawful.spelled n nu.0)));
    }

    inverse : (i : V) → false ≡ legal_word M w → IsProduct D u c k i → own i ≡ true → Answered D k a (Inverse i)
    inverse i l i_is oi = record {
      own_answer = oi;
      answer = at_true _ _ h.own_both (only L legal_m (M.element (word a)) (has_inverse (word i)) (answers_inverse L legal_m (M.element (word a)) (word g) (M.element (word c)) (word n) (word u) h.found.descended multiple h.undivided (illegal_element M (word n) (lawful.spelled n nu.0) (ap (legal_word M) (sym word_is) ∙ sym l)) (word i) (answer_residue M m (times M (word u) (word c)) (and_from _ _ (and_from _ _ nu.1 h.found.own_cofactor) (and_parts (own a) own_m h.own_both).1) i_is)));
    }

  pub euclid_laws : EuclidLaws D k a
  euclid_laws = record {
    reduced = reduces;
    zero = λ r h z. record {
      own_answer = tt;
      answer = when_each (own a && own_m) _ _ (λ o. only L (legal_both o) (M.element (word a)) is_zero (congruent_divides M.euclidean.ring (h.congruent o) (divides_self M.euclidean.ring (M.element m)) (divides_eq M.euclidean.ring (divides_zero M.euclidean.ring (M.element m)) (sym z.1)))) (λ other. refl);
    };
    reducing = λ r h more. record { dividing = dividing r h more; concluding = concluding r h more };
    factor = factor;
    inverse = λ g c n u i w h normal nu w_is l i_is oi. inverse g c n u w h normal nu w_is i l i_is oi;
  }
