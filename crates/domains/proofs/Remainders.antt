-- What the laws say of remainders: congruent elements have the same remainder, and a remainder is its own. Assumes nothing.
use Rattle.std.proofs.Common.{◌≡◌, true, sym, ap, ◌∙◌}
use Rattle.algebra.specs.Divisibility.{Divides, Congruent}
use Rattle.algebra.proofs.Ring.{neg_zero, add-zero}
use Rattle.algebra.proofs.Divides.{divides_eq}
use Rattle.algebra.proofs.Congruence.{congruent_trans, congruent_eq}
use Rattle.domains.specs.Meaning.{Meaning, Laws, residue}

module _ {M : Meaning} (L : Laws M) {m : M.Element} (legal : M.legal m ≡ true) where
  -- an element and its remainder are congruent
  pub remainder_congruent : (a : M.Element) → Congruent M.euclidean.ring m a (M.remainder m a)
  remainder_congruent a = L.remainder_differs m a legal

  -- congruent elements have the same remainder, and so the same residue
  pub congruent_remainder : {a b : M.Element} → Congruent M.euclidean.ring m a b → M.remainder m a ≡ M.remainder m b
  congruent_remainder {a} {b} p = (L.remainder_equal m a b legal).1 p

  pub remainder_congruent_both : {a b : M.Element} → M.remainder m a ≡ M.remainder m b → Congruent M.euclidean.ring m a b
  remainder_congruent_both {a} {b} e = (L.remainder_equal m a b legal).0 e

  -- a remainder is its own remainder
  pub remainder_twice : (a : M.Element) → M.remainder m (M.remainder m a) ≡ M.remainder m a
  remainder_twice a = sym (congruent_remainder (remainder_congruent a))

  -- the element of a residue is the remainder, and congruent to the element
  pub residue_element : (a : M.Element) → M.element (residue M m a) ≡ M.remainder m a
  residue_element a = L.word_remainder m a legal

  pub residue_congruent : (a : M.Element) → Congruent M.euclidean.ring m a (M.element (residue M m a))
  residue_congruent a = congruent_trans M.euclidean.ring (remainder_congruent a) (congruent_eq M.euclidean.ring (sym (residue_element a)))

  -- the remainder is 0 exactly when m divides the element
  pub zero_divides : (a : M.Element) → M.remainder m a ≡ M.euclidean.ring.zero → Divides M.euclidean.ring m a
  zero_divides a e =
      divides_eq M.euclidean.ring (remainder_congruent a) (ap (λ x. M.euclidean.ring.add a (M.euclidean.ring.neg x)) e ∙ ap (λ x. M.euclidean.ring.add a x) (neg_zero M.euclidean.ring) ∙ add-zero M.euclidean.ring a)

  pub divides_zero_remainder : (a : M.Element) → Divides M.euclidean.ring m a → M.remainder m a ≡ M.euclidean.ring.zero
  divides_zero_remainder a p =
      congruent_remainder (divides_eq M.euclidean.ring p (sym (ap (λ x. M.euclidean.ring.add a x) (neg_zero M.euclidean.ring) ∙ add-zero M.euclidean.ring a))) ∙ L.remainder_zero m legal
