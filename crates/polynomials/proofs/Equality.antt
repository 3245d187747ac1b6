-- Polynomials are equal when their coefficients are, and that is decided. Assumes nothing.
use mathlib.Core.Path.{◌≡◌, refl, sym, ap, ◌∙◌, fun_ext, subst}
use mathlib.Core.Logic.{◌≢◌, inl, inr}
use mathlib.Core.HLevel.{Π_prop, is_prop→PathP, hedberg, ⊥_prop}
use Prim.Native.Nat.{ℕ, zero, suc, ◌≤◌, ◌<◌, max}
use native.Mathlib.Nat.{le_antisymm, not-suc-le-zero, suc_inj, eq-or-lt_of_le}
use native.Mathlib.Decide.{dec_le}
use native.Mathlib.Omega.{arith}
use Rattle.algebra.specs.Field.{Field}
use Rattle.polynomials.specs.Sequence.{Vanishes}
use Rattle.polynomials.specs.Polynomial.{Polynomial}

module _ {K : Type 0} (𝓚 : Field K) where
  -- the bound is the least number from which on all coefficients are 0
  pub bound_least : (p : Polynomial 𝓚) (n : ℕ) → Vanishes 𝓚.ring p.coefficient n → p.bound ≤ n
  bound_least p n v = go p.bound refl
    where
      go : (b : ℕ) → b ≡ p.bound → b ≤ n
      go zero e = omega arith
      go (suc m) e = elim (dec_le (suc m) n) [ yes h ↦ h | no h ↦ absurd (p.last m e (v m (omega arith))) ]

  -- polynomials with the same coefficients are equal
  pub extensional : (p q : Polynomial 𝓚) → ((i : ℕ) → p.coefficient i ≡ q.coefficient i) → p ≡ q
  extensional p q h = λ i. record {
    coefficient = cs i;
    bound = bs i;
    beyond = is_prop→PathP (λ j. Vanishes 𝓚.ring (cs j) (bs j)) (λ j. Π_prop (λ _. Π_prop (λ _. hedberg 𝓚.equal _ _))) p.beyond q.beyond i;
    last = is_prop→PathP (λ j. (k : ℕ) → suc k ≡ bs j → cs j k ≢ 𝓚.ring.zero) (λ j. Π_prop (λ _. Π_prop (λ _. Π_prop (λ _. ⊥_prop)))) p.last q.last i;
  }
    where
      cs : p.coefficient ≡ q.coefficient
      cs = fun_ext h

      bs : p.bound ≡ q.bound
      bs = le_antisymm
          (bound_least p q.bound (λ i k. h i ∙ q.beyond i k))
          (bound_least q p.bound (λ i k. sym (h i) ∙ p.beyond i k))

  -- whether the first n coefficients agree is decided
  agree : (a b : ℕ → K) (n : ℕ) → Dec ((i : ℕ) → i < n → a i ≡ b i)
  agree a b zero = yes (λ i h. absurd (not-suc-le-zero h))
  agree a b (suc n) = go (agree a b n) (𝓚.equal (a n) (b n))
    where
      go : Dec ((i : ℕ) → i < n → a i ≡ b i) → Dec (a n ≡ b n) → Dec ((i : ℕ) → i < suc n → a i ≡ b i)
      go (yes f) (yes e) = yes (λ i h. elim (eq-or-lt_of_le h) [ inl p ↦ subst (λ j. a j ≡ b j) (sym (suc_inj p)) e | inr k ↦ f i (omega arith) ])
      go (yes f) (no e) = no (λ g. e (g n (omega arith)))
      go (no f) d = no (λ g. f (λ i h. g i (omega arith)))

  -- equality of polynomials is decided
  pub equal_polynomials : (p q : Polynomial 𝓚) → Dec (p ≡ q)
  equal_polynomials p q = go (agree p.coefficient q.coefficient (max p.bound q.bound))
    where
      go : Dec ((i : ℕ) → i < max p.bound q.bound → p.coefficient i ≡ q.coefficient i) → Dec (p ≡ q)
      go (yes f) = yes (extensional p q (λ i. elim (dec_le (suc i) (max p.bound q.bound)) [ yes h ↦ f i h | no h ↦ p.beyond i (omega arith) ∙ sym (q.beyond i (omega arith)) ]))
      go (no f) = no (λ e. f (λ i _. ap (λ (r : Polynomial 𝓚). r.coefficient i) e))
