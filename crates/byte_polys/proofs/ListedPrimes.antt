-- What a search of the list of primes finds. Assumes nothing.
use Rattle.std.proofs.Common.{◌≡◌, ℕ, zero, suc, ◌<◌, Bool, true, false, eqb, List, [], ◌∷◌, length, get_or, sym, refl, ◌∙◌, arith}
use Rattle.std.specs.List.{IsAnyAnswer}
use Rattle.std.proofs.lemmas.Bool.{false≢true, eq-eqb, eqb-true, ne_eqb, or_left, or_right, or_from}
use Rattle.byte_polys.specs.Listed.{among, primes, listed}

-- what stands at a place of a list is among its numbers
among_at : (p : ℕ) (qs : List ℕ) (k : ℕ) → k < length qs → get_or qs k 0 ≡ p → among p qs ≡ true
among_at p [] k l e = absurd (omega arith)
among_at p (q ∷ qs) zero l e = or_left (eqb q p) (among p qs) (eq-eqb q p e)
among_at p (q ∷ qs) (suc k) l e = or_right (eqb q p) (among p qs) (among_at p qs k (omega arith) e)

-- and what stands at none is not
among_none : (p : ℕ) (qs : List ℕ) → ((k : ℕ) → k < length qs → get_or qs k 0 ≡ p → ⊥) → among p qs ≡ false
among_none p [] h = refl
among_none p (q ∷ qs) h = or_from (eqb q p) (among p qs) (ne_eqb q p (h 0 (omega arith))) (among_none p qs (λ k l. h (suc k) (omega arith)))

-- a search finds what is among the numbers of the list
pub contains_among : (p : ℕ) (qs : List ℕ) (r : Bool) → IsAnyAnswer (λ y t. eqb y p ≡ t) qs r → r ≡ among p qs
contains_among p qs true h = sym (among_at p qs h.0 h.1 (eqb-true _ p (h.2 0)))
contains_among p qs false h = sym (among_none p qs (λ k l e. false≢true (sym (h k 0 (omega arith) l) ∙ eq-eqb _ p e)))

-- and in the table of primes what is listed
pub contains_listed : (p : ℕ) (r : Bool) → IsAnyAnswer (λ y t. eqb y p ≡ t) primes r → r ≡ listed p
unfolding listed
contains_listed p r h = contains_among p primes r h
