-- What is said of one p is said of an equal one. Assumes nothing.
use Rattle.std.specs.Prelude.{◌≡◌, ℕ, ◌<◌, true, List, slice_index}
use Rattle.std.proofs.Common.{subst}
use Rattle.std.proofs.Math.Bool.{Bool-set}
use mathlib.Core.HLevel.{Σ_prop_path}
use Rattle.byte_polys.specs.Listed.{listed}
use Rattle.byte_polys.specs.Steps.{Below}

-- what is below one number is below an equal one
pub below_same : {p q : ℕ} (xs : List ℕ) → q ≡ p → Below q xs → Below p xs
below_same {p} {q} xs e h i = subst (λ n. slice_index xs i < n) e (h i)

-- a number with a proof that it is listed
abbrev Listed : Type 0
Listed = (p : ℕ) × (listed p ≡ true)

-- such pairs are equal when the numbers are
pub same_prime : (P : (p : ℕ) → listed p ≡ true → Type 0) (p q : ℕ) (h : listed p ≡ true) (k : listed q ≡ true) → p ≡ q → P p h → P q k
same_prime P p q h k e x =
    let same : ◌≡◌ {A = Listed} (p, h) (q, k) = Σ_prop_path (λ n. Bool-set (listed n) true) e in
    subst (λ (y : Listed). P y.0 y.1) same x
