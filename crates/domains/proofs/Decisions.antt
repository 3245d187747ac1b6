-- Answers yes or no that decide a statement. Assumes nothing.
use Rattle.std.proofs.Common.{◌≡◌, ℕ, Bool, true, false, eqb, refl}
use Rattle.std.proofs.lemmas.Bool.{eqb-true, eqb-false}
use Rattle.domains.specs.Answers.{Decides}

-- what decides a statement decides every equivalent one
pub decides_like : (r : Bool) (P Q : Type 0) → (P → Q) → (Q → P) → Decides r P → Decides r Q
decides_like true P Q f g p = f p
decides_like false P Q f g n = λ q. n (g q)

-- `a == b` decides what holds exactly when they are equal
pub decides_equal : (a b : ℕ) (P : Type 0) → (a ≡ b → P) → (P → a ≡ b) → Decides (eqb a b) P
decides_equal a b P f g = go (eqb a b) refl
  where
    go : (t : Bool) → eqb a b ≡ t → Decides t P
    go true e = f (eqb-true a b e)
    go false e = λ p. eqb-false a b e (g p)
