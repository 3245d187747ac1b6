-- The words that are legal moduli, and squarefree ones. Assumes nothing.
use Rattle.std.specs.Prelude.{◌≡◌, ℕ, true, false, List}
use Rattle.std.proofs.Common.{arith}
use Rattle.std.proofs.lemmas.Bool.{and_from, false_from_ne_true, eq-eqb}
use Rattle.algebra.specs.Divisibility.{Squarefree}
use Rattle.algebra.proofs.Bezout.{squarefree_iff_no_square}
use Rattle.domains.specs.Meaning.{legal_word}
use Rattle.domains.proofs.Calls.{legal_element}
use Rattle.byte_polys.specs.ByteField.{byte_polys, poly, number}
use Rattle.byte_polys.specs.Domain.{NoSquareDivides}
use Rattle.byte_polys.specs.Listed.{listed, listed_low}
use Rattle.byte_polys.specs.Steps.{Below, Monic}
use Rattle.byte_polys.specs.Instance.{modulo}
use Rattle.byte_polys.specs.Laws.{lawful}
use Rattle.byte_polys.specs.LegalWords.{monic_legal, legal_top}
use Rattle.byte_polys.specs.Bytes.{word_number}

module _ (p : ℕ) (h : listed p ≡ true) (cs : List ℕ) (below : Below p cs) where
  -- a list with the coefficients of a legal modulus has a legal word
  pub monic_word : (n : ℕ) → Monic cs n → legal_word (byte_polys p h) (number cs) ≡ true
  unfolding byte_polys
  monic_word n m = and_from _ _ (monic_legal (modulo p h) cs below n m) (eq-eqb _ _ (word_number (modulo p h) cs below))

  -- and no other
  pub other_word : ((n : ℕ) → Monic cs n → ⊥) → legal_word (byte_polys p h) (number cs) ≡ false
  unfolding byte_polys
  other_word none =
      false_from_ne_true _ (λ l. let low = listed_low p h in none _ (legal_top (modulo p h) cs below (omega arith) (legal_element (byte_polys p h) (number cs) l)))

  -- if no square of a non-unit divides it, it is squarefree
  pub free_squarefree : NoSquareDivides p h cs → Squarefree (byte_polys p h).euclidean.ring (poly p h cs)
  free_squarefree free = (squarefree_iff_no_square (lawful p h).euclidean _).1 free
