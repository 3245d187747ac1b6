-- The derivative, coefficient by coefficient. Assumes nothing.
use Rattle.std.proofs.Common.{◌≡◌, ℕ, zero, suc, ◌+◌, ◌*◌, ◌%◌, ◌<◌, List, get_or, sym, ap, ◌∙◌, subst, add-one, arith}
use native.Mathlib.Nat as Nat
use native.Mathlib.Decide.{dec_lt, ℕ_discrete}
use Rattle.algebra.specs.Field.{Field}
use Rattle.polynomials.specs.Sequence.{multiple, multiple_zero}
use Rattle.polynomials.specs.Polynomial.{derivative}
use Rattle.polynomials.specs.Words.{Digits, element_zero, from_word}
use Rattle.polynomials.proofs.Coefficients.{coefficient_derivative}
use Rattle.byte_polys.specs.ByteField.{number}
use Rattle.byte_polys.specs.Steps.{Below, ZeroFrom}
use Rattle.byte_polys.specs.Bytes.{Modulo, coefficient_below, element_mod, poly_is}

module _ {K : Type 0} {𝓚 : Field K} {d : Digits 𝓚} {p : ℕ} (L : Modulo 𝓚 d p) where
  -- a product of numbers stands for a multiple
  element_multiple : (n x : ℕ) → d.element (n * x) ≡ multiple 𝓚.ring n (d.element x)
  unfolding multiple
  element_multiple zero x = ap d.element (Nat.zero-mul x) ∙ element_zero 𝓚 d
  element_multiple (suc n) x =
      ap d.element (Nat.suc-mul n x ∙ Nat.add_comm (n * x) x) ∙ L.add x (n * x) ∙ ap (𝓚.ring.add (d.element x)) (element_multiple n x)

  module _ (a r : List ℕ) (each : (k : ℕ) → k < 7 → get_or r k 0 ≡ ((k + 1) * get_or a (k + 1) 0) % p) (last : get_or r 7 0 ≡ 0) (end : ZeroFrom 8 r) where
    -- there are no later coefficients
    later : ZeroFrom 7 r
    later i l = go (ℕ_discrete i 7)
      where
        go : Dec (i ≡ 7) → get_or r i 0 ≡ 0
        go (yes e) = ap (λ j. get_or r j 0) e ∙ last
        go (no ne) = end i (omega arith)

    -- the coefficients are below p
    pub derivative_below : Below p r
    derivative_below i = go (dec_lt i 7)
      where
        go : Dec (i < 7) → get_or r i 0 < p
        go (yes l) = subst (λ x. x < p) (sym (each i l)) (Nat.mod-lt _ L.positive)
        go (no l) = let z = later i (omega arith) in let s = L.positive in omega arith

    -- and those of the derivative
    pub derivative_poly : Below p a → ZeroFrom 8 a → from_word 𝓚 d (number r) ≡ derivative 𝓚 (from_word 𝓚 d (number a))
    derivative_poly h z = poly_is L r _ derivative_below (λ i. go i (dec_lt i 7) ∙ ap (multiple 𝓚.ring (suc i)) (sym (coefficient_below L a h (suc i))) ∙ sym (coefficient_derivative 𝓚 _ i))
      where
        go : (i : ℕ) → Dec (i < 7) → d.element (get_or r i 0) ≡ multiple 𝓚.ring (suc i) (d.element (get_or a (suc i) 0))
        go i (yes l) = ap d.element (each i l) ∙ element_mod L _ ∙ ap (λ k. d.element (k * get_or a k 0)) (add-one i) ∙ element_multiple (suc i) _
        go i (no l) =
            ap d.element (later i (omega arith)) ∙ element_zero 𝓚 d ∙ sym (multiple_zero 𝓚.ring (suc i))
            ∙ ap (multiple 𝓚.ring (suc i)) (sym (ap d.element (z (suc i) (omega arith)) ∙ element_zero 𝓚 d))
