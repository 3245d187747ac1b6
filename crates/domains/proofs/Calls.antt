-- What the answers of a domain's calls mean where all arguments are its own. Assumes nothing.
use Rattle.std.proofs.Common.{◌≡◌, ℕ, Bool, true, false, cond, ◌&&◌, eqb, None, MatchBool, Option, sym, refl, ap, ◌∙◌, subst, eq-eqb, MatchOption}
use Rattle.std.proofs.lemmas.Bool.{and_from, and_parts, false≢true}
use Rattle.algebra.specs.Divisibility.{Divides, Congruent, IsUnit}
use Rattle.algebra.proofs.Ring.{one-mul, sub_self, add-zero}
use Rattle.algebra.proofs.Divides.{divides_self, divides_zero, divides_eq}
use Rattle.algebra.proofs.Congruence.{congruent_eq, congruent_symmetric, congruent_trans, congruent_divides}
use Rattle.domains.specs.Meaning.{Meaning, Laws, residue, legal_word}
use Rattle.domains.specs.Answers.{Residue, IsZero, Normalized, zero_word, one_word, sum, difference}
use Rattle.domains.proofs.Remainders.{residue_element, residue_congruent, divides_zero_remainder}

-- a flag that is known to be true may stand in between
pub and_between : (x y z : Bool) → y ≡ true → (x && z) ≡ false → ((x && y) && z) ≡ false
and_between true y z p q = ap (λ b. b && z) p ∙ q
and_between false y z p q = refl

pub at_true : {b : Bool} (P Q : Type 0) → b ≡ true → P → MatchBool b P Q
at_true P Q e p = subst (λ x. MatchBool x P Q) (sym e) p

pub at_none : {T : Type 0} {r : Option T} (P : Type 0) (Q : T → Type 0) → r ≡ None → P → MatchOption r P Q
at_none P Q e p = subst (λ x. MatchOption x P Q) (sym e) p

-- what holds at each value of a flag
pub when_each : (b : Bool) (P Q : Type 0) → (b ≡ true → P) → (b ≡ false → Q) → MatchBool b P Q
when_each true P Q f g = f refl
when_each false P Q f g = g refl

-- a word that is a legal modulus has a legal element
pub legal_element : (M : Meaning) (w : ℕ) → legal_word M w ≡ true → M.legal (M.element w) ≡ true
legal_element M w p = (and_parts (M.legal (M.element w)) (eqb (M.word (M.element w)) w) p).0

-- and a canonical word that is no legal modulus has none
pub illegal_element : (M : Meaning) (w : ℕ) → M.word (M.element w) ≡ w → legal_word M w ≡ false → ¬ (M.legal (M.element w) ≡ true)
illegal_element M w spelled p l = false≢true (sym p ∙ and_from _ _ l (eq-eqb _ _ spelled))

-- the residue that a call answers
pub answer_residue : (M : Meaning) (m : ℕ) {own : Bool} (a : M.Element) {r : ℕ} → own ≡ true → Residue M own m a r → r ≡ residue M (M.element m) a
answer_residue M m a e h = h ∙ ap (λ b. cond b (residue M (M.element m) a) (zero_word M)) e

module _ {M : Meaning} (L : Laws M) {m : ℕ} (legal : M.legal (M.element m) ≡ true) where
  -- the element of a residue that a call answers
  pub answer_element : {own : Bool} (a : M.Element) {r : ℕ} → own ≡ true → Residue M own m a r → M.element r ≡ M.remainder (M.element m) a
  answer_element a e h = ap M.element (answer_residue M m a e h) ∙ residue_element L legal a

  -- and it is congruent to what was computed
  pub answer_congruent : {own : Bool} (a : M.Element) {r : ℕ} → own ≡ true → Residue M own m a r → Congruent M.euclidean.ring (M.element m) (M.element r) a
  answer_congruent a e h =
      let k = congruent_symmetric M.euclidean.ring (residue_congruent L legal a) in
      subst (λ x. Congruent M.euclidean.ring (M.element m) (M.element x) a) (sym (answer_residue M m a e h)) k

module _ {M : Meaning} (L : Laws M) (m : ℕ) where
  -- for other arguments the answer is 0
  pub foreign_zero : {own : Bool} (a : M.Element) {r : ℕ} → own ≡ false → Residue M own m a r → IsZero M r
  foreign_zero a e h = ap M.element (h ∙ ap (λ b. cond b (residue M (M.element m) a) (zero_word M)) e) ∙ L.word_zero

  -- so an answer that is not 0 comes from the domain's own arguments
  pub own_since_nonzero : (x y z : Bool) (a : M.Element) {r : ℕ} → y ≡ true → Residue M ((x && y) && z) m a r → ¬ IsZero M r → (x && z) ≡ true
  own_since_nonzero x y z a {r} p h n = go (x && z) refl
    where
      go : (b : Bool) → (x && z) ≡ b → (x && z) ≡ true
      go true e = e
      go false e = absurd (n (foreign_zero a (and_between x y z p e) h))

  -- a value, reduced by adding what a − a answers
  module _ (x z : Bool) (a w r : ℕ) (own : (x && z) ≡ true) (legal : M.legal (M.element m) ≡ true) (zero_is : Residue M ((x && x) && z) m (difference M a a) w) (y : Bool) (own_zero : y ≡ true) (reduced_is : Residue M ((x && y) && z) m (sum M a w) r) where
    pub zero_element : IsZero M w
    zero_element =
        answer_element L legal (difference M a a) (and_from _ _ (and_from _ _ (and_parts x z own).0 (and_parts x z own).0) (and_parts x z own).1) zero_is
        ∙ ap (M.remainder (M.element m)) (sub_self M.euclidean.ring (M.element a))
        ∙ L.remainder_zero (M.element m) legal

    pub reduced_congruent : Congruent M.euclidean.ring (M.element m) (M.element a) (M.element r)
    reduced_congruent =
        congruent_symmetric M.euclidean.ring (congruent_trans M.euclidean.ring (answer_congruent L legal (sum M a w) (and_from _ _ (and_from _ _ (and_parts x z own).0 own_zero) (and_parts x z own).1) reduced_is) (congruent_eq M.euclidean.ring (ap (M.euclidean.ring.add (M.element a)) zero_element ∙ add-zero M.euclidean.ring (M.element a))))

    -- the reduced value is 0 exactly when m divides the value
    pub zero_reduced : IsZero M r → Divides M.euclidean.ring (M.element m) (M.element a)
    zero_reduced z = congruent_divides M.euclidean.ring reduced_congruent (divides_self M.euclidean.ring (M.element m)) (divides_eq M.euclidean.ring (divides_zero M.euclidean.ring (M.element m)) (sym z))

    pub reduced_zero : Divides M.euclidean.ring (M.element m) (M.element a) → IsZero M r
    reduced_zero d =
        answer_element L legal (sum M a w) (and_from _ _ (and_from _ _ (and_parts x z own).0 own_zero) (and_parts x z own).1) reduced_is
        ∙ divides_zero_remainder L legal (sum M a w) (divides_eq M.euclidean.ring d (sym (ap (M.euclidean.ring.add (M.element a)) zero_element ∙ add-zero M.euclidean.ring (M.element a))))

-- a value whose element is normal unless it is 0 is its own normal multiple, by 1
pub own_multiple : (M : Meaning) (a u : ℕ) → u ≡ one_word M → M.element u ≡ M.euclidean.ring.one → (¬ IsZero M a → M.euclidean.normal (M.element a) ≡ true) → (IsZero M a → a ≡ zero_word M) → Normalized M a a u
own_multiple M a u is stands normal zero = record {
  of_nonzero = λ ne. record {
    unit = subst (IsUnit M.euclidean.ring) (sym stands) (divides_self M.euclidean.ring M.euclidean.ring.one);
    multiple = sym (ap (λ x. M.euclidean.ring.mul x (M.element a)) stands ∙ one-mul M.euclidean.ring (M.element a));
    normal = normal ne;
  };
  of_zero = λ z. (zero z, is);
}
