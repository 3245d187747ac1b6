-- Values of a domain's own, and what they stand for. Assumes nothing.
use Rattle.std.proofs.Common.{◌≡◌, ℕ, Bool, true, List, length, ◌&&◌, eqb, ap, ◌∙◌, subst}
use Rattle.std.proofs.lemmas.Bool.{eqb-true, and_parts}
use Rattle.algebra.specs.Euclidean.{Euclidean, Division}
use Rattle.polynomials.specs.Words.{from_word}
use Rattle.byte_polys.specs.ByteField.{field, byte_digits, number, polynomial_of}
use Rattle.byte_polys.specs.Bytes.{below_byte}
use Rattle.byte_polys.specs.Instance.{modulo}
use Rattle.byte_polys.specs.Listed.{listed}
use Rattle.byte_polys.specs.Steps.{Below, ZeroFrom}
use Rattle.byte_polys.proofs.Zeros.{past_end}

-- values that are both of one p
pub owned : {p q r : ℕ} → (eqb p r && eqb q r) ≡ true → (p ≡ r) × (q ≡ r)
owned {p} {q} {r} h =
    let parts = and_parts (eqb p r) (eqb q r) h in
    (eqb-true p r parts.0, eqb-true q r parts.1)

-- coefficients of the field's own stand for the element of their word
pub own_element : (p : ℕ) (h : listed p ≡ true) {own : Bool} (cs : List ℕ) {w : ℕ} → own ≡ true → number cs ≡ w → polynomial_of p h own cs ≡ from_word (field p h) (byte_digits p h) w
own_element p h cs e k = ap (λ o. polynomial_of p h o cs) e ∙ ap (from_word (field p h) (byte_digits p h)) k

-- equal elements have the same quotient
pub division_same : {R : Type 0} {E : Euclidean R} {a b c x y z : R} {q : R} → a ≡ x → b ≡ y → c ≡ z → Division E a b q c → Division E x y q z
division_same {R} {E} {a} {b} {c} {x} {y} {z} {q} f g k v = subst (λ t. Division E t y q z) f (subst (λ t. Division E a t q z) g (subst (Division E a b q) k v))

-- the eight coefficients of a value are bytes, and past them there is none
pub eight_bytes : (p : ℕ) → listed p ≡ true → (cs : List ℕ) → Below p cs → length cs ≡ 8 → Below 256 cs × ZeroFrom 8 cs
eight_bytes p h cs below is = (below_byte (modulo p h) cs below, past_end cs 8 is)
