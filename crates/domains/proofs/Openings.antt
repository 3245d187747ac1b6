-- The law of inverting a word holds, and what it tells of a word whether there is a modulus with it. Assumes nothing.
use Rattle.std.proofs.Common.{◌≡◌, ℕ, Bool, Some, None, Option, MatchOption, is_some, sym, subst}
use Rattle.std.proofs.lemmas.Bool.Decides.{when_true}
use Rattle.std.proofs.lemmas.Bool.{and_from}
use Rattle.domains.specs.Answers.{Decides}
use Rattle.algebra.proofs.Congruence.{congruent_symmetric}
use Rattle.domains.specs.Euclid.{Answers, Only, outcome}
use Rattle.domains.specs.Meaning.{Meaning, SquarefreeModulus}
use Rattle.domains.specs.OpeningLaws.{OpeningLaws}
use Rattle.domains.specs.View.{View, Lawful, IsModulus}
use Rattle.domains.proofs.Calls.{legal_element, answer_congruent}
use Rattle.domains.proofs.Outcomes.{only, answers_congruent}

module _ {V : Type 0} {N : Type 0} {D : View V N} (lawful : Lawful D) (w f : ℕ) where
  abbrev M : Meaning
  M = D.meaning

  pub opening_laws : OpeningLaws D w f
  opening_laws m a x m-is a-is oa h =
      let legal = legal_element M (D.modulus_word m) (lawful.sound m m-is.0).legal in
      let answered = when_true _ _ (and_from _ _ oa m-is.0) h.answer in
      let same = congruent_symmetric M.euclidean.ring (answer_congruent lawful.laws legal (M.element w) m-is.0 a-is) in
      record {
        own_answer = h.own_answer;
        modulus = subst (SquarefreeModulus M) m-is.1 (lawful.sound m m-is.0);
        answer = subst (λ k. Only (Answers M (M.element k) (M.element w)) (outcome D.word x)) m-is.1 (only lawful.laws legal (M.element w) (outcome D.word x) (answers_congruent lawful.laws legal (M.element w) (M.element (D.word a)) (outcome D.word x) same answered.holds));
      }

-- there is a modulus with a word exactly where the word is legal and squarefree
module _ {V : Type 0} {N : Type 0} {D : View V N} (lawful : Lawful D) (w : ℕ) where
  pub modulus_decides : (r : Option N) (b : Bool) → MatchOption r (¬ SquarefreeModulus D.meaning w) (IsModulus D w) → b ≡ is_some r → Decides b (SquarefreeModulus D.meaning w)
  modulus_decides None b none e = subst (λ x. Decides x (SquarefreeModulus D.meaning w)) (sym e) none
  modulus_decides (Some m) b is e = subst (λ x. Decides x (SquarefreeModulus D.meaning w)) (sym e) (subst (SquarefreeModulus D.meaning) is.1 (lawful.sound m is.0))
