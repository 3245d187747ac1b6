-- The residues modulo an element form a commutative ring, and modulo an irreducible one a field. Assumes nothing.
use mathlib.Core.Path.{◌≡◌, sym, ap, ◌∙◌}
use mathlib.Core.Logic.{◌≢◌, ◌⊎◌, inl, inr}
use mathlib.Core.HLevel.{Σ_prop_path, Σ_prop_discrete, Σ_set, prop→set}
use mathlib.Mathlib.Algebra.Ring.Defs.{CommRing, IsCommRing}
use Rattle.algebra.specs.Divisibility.{minus, Divides, Congruent, Irreducible, Coprime}
use Rattle.algebra.specs.Euclidean.{Euclidean, EuclideanLaws}
use Rattle.algebra.specs.Field.{Field}
use Rattle.algebra.specs.Residues.{Remainders, Residue}
use Rattle.algebra.proofs.Ring
use Rattle.algebra.proofs.Divides.{divides_eq}
use Rattle.algebra.proofs.Congruence.{congruent_eq, congruent_self, congruent_symmetric, congruent_trans, congruent_add, congruent_product}
use Rattle.algebra.proofs.Primes.{coprime_sum, irreducible_or}

-- equations in a ring have at most one proof
pub ring_set : {R : Type 0} (𝓡 : CommRing R) → IsSet R
ring_set 𝓡 = 𝓡.is_comm_ring.is_ring.is_semiring.is_non_unital_semiring.is_non_unital_non_assoc_semiring.is_add_comm_monoid.is_add_monoid.is_add_semigroup.is_set

module _ {R : Type 0} (𝓡 : CommRing R) (m : R) (ρ : Remainders 𝓡 m) where
  open 𝓡 use {add as ◌+◌, mul as ◌*◌, zero as 𝟘, neg, one as 𝟙}
  open ρ use {remainder, congruent, same}

  infixl 65 ◌+◌
  infixl 70 ◌*◌
  -- elements with the same remainder are congruent
  pub remainder_congruent : (a b : R) → remainder a ≡ remainder b → Congruent 𝓡 m a b
  remainder_congruent a b e = congruent_trans 𝓡 (congruent a) (congruent_symmetric 𝓡 (congruent_trans 𝓡 (congruent b) (congruent_eq 𝓡 (sym e))))

  -- to add or to multiply, it does not matter whether remainders are taken before
  pub remainder_add_left : (a b : R) → remainder (remainder a + b) ≡ remainder (a + b)
  remainder_add_left a b = same _ _ (congruent_add 𝓡 (congruent_symmetric 𝓡 (congruent a)) (congruent_self 𝓡 b))

  pub remainder_add_right : (a b : R) → remainder (a + remainder b) ≡ remainder (a + b)
  remainder_add_right a b = same _ _ (congruent_add 𝓡 (congruent_self 𝓡 a) (congruent_symmetric 𝓡 (congruent b)))

  pub remainder_mul_left : (a b : R) → remainder (remainder a * b) ≡ remainder (a * b)
  remainder_mul_left a b = same _ _ (congruent_product 𝓡 (congruent_symmetric 𝓡 (congruent a)) (congruent_self 𝓡 b))

  pub remainder_mul_right : (a b : R) → remainder (a * remainder b) ≡ remainder (a * b)
  remainder_mul_right a b = same _ _ (congruent_product 𝓡 (congruent_self 𝓡 a) (congruent_symmetric 𝓡 (congruent b)))

  -- the residue of an element
  abbrev pub residue : R → Residue 𝓡 m ρ
  residue a = (remainder a, same (remainder a) a (congruent_symmetric 𝓡 (congruent a)))

  -- residues are equal when they are equal in the ring
  pub residues_equal : {x y : Residue 𝓡 m ρ} → x.0 ≡ y.0 → x ≡ y
  residues_equal = Σ_prop_path (λ a. ring_set 𝓡 (remainder a) a)

  -- so the residues keep the laws of a commutative ring
  pub residue_ring_laws : IsCommRing (Residue 𝓡 m ρ) (λ x y. residue (x.0 + y.0)) (λ x y. residue (x.0 * y.0)) (residue 𝟘) (λ x. residue (neg x.0)) (residue 𝟙)
  residue_ring_laws = record {
    is_ring = record {
      is_semiring = record {
        is_non_unital_semiring = record {
          is_non_unital_non_assoc_semiring = record {
            is_add_comm_monoid = record {
              is_add_monoid = record {
                is_add_semigroup = record {
                  is_set = Σ_set (ring_set 𝓡) (λ a. prop→set (ring_set 𝓡 (remainder a) a));
                  add_assoc = λ x y z. residues_equal (simp (remainder_add_left, remainder_add_right, Ring.add_assoc));
                };
                zero-add = λ x. residues_equal (remainder_add_left 𝟘 x.0 ∙ ap remainder (Ring.zero-add 𝓡 x.0) ∙ x.1);
                add-zero = λ x. residues_equal (remainder_add_right x.0 𝟘 ∙ ap remainder (Ring.add-zero 𝓡 x.0) ∙ x.1);
              };
              add_comm = λ x y. residues_equal (ap remainder (Ring.add_comm 𝓡 x.0 y.0));
            };
            left_distrib = λ x y z. residues_equal (simp (remainder_add_left, remainder_add_right, remainder_mul_right, Ring.mul_add));
            right_distrib = λ x y z. residues_equal (simp (remainder_add_left, remainder_add_right, remainder_mul_left, Ring.add_mul));
            zero-mul = λ x. residues_equal (remainder_mul_left 𝟘 x.0 ∙ ap remainder (Ring.zero-mul 𝓡 x.0));
            mul-zero = λ x. residues_equal (remainder_mul_right x.0 𝟘 ∙ ap remainder (Ring.mul-zero 𝓡 x.0));
          };
          mul_assoc = λ x y z. residues_equal (simp (remainder_mul_left, remainder_mul_right, Ring.mul_assoc));
        };
        one-mul = λ x. residues_equal (remainder_mul_left 𝟙 x.0 ∙ ap remainder (Ring.one-mul 𝓡 x.0) ∙ x.1);
        mul-one = λ x. residues_equal (remainder_mul_right x.0 𝟙 ∙ ap remainder (Ring.mul-one 𝓡 x.0) ∙ x.1);
      };
      neg-add_cancel = λ x. residues_equal (remainder_add_left (neg x.0) x.0 ∙ ap remainder (Ring.neg_add 𝓡 x.0));
    };
    mul_comm = λ x y. residues_equal (ap remainder (Ring.mul_comm 𝓡 x.0 y.0));
  }

  -- the ring of residues: to add and to multiply, do so in the ring and take the remainder
  abbrev pub residue_ring : CommRing (Residue 𝓡 m ρ)
  residue_ring = record {
    add = λ x y. residue (x.0 + y.0);
    mul = λ x y. residue (x.0 * y.0);
    zero = residue 𝟘;
    neg = λ x. residue (neg x.0);
    one = residue 𝟙;
    is_comm_ring = residue_ring_laws;
  }

module _ {R : Type 0} {E : Euclidean R} (L : EuclideanLaws E) (m : R) (m_irreducible : Irreducible E.ring m) (ρ : Remainders E.ring m) where
  open E.ring use {add as ◌+◌, mul as ◌*◌, zero as 𝟘, one as 𝟙}

  infixl 65 ◌+◌
  infixl 70 ◌*◌
  minus_zero : (a : R) → minus E.ring a 𝟘 ≡ a
  minus_zero a = ap (λ x. a + x) (Ring.neg_zero E.ring) ∙ Ring.add-zero E.ring a

  -- an irreducible element does not divide 1
  pub residue_one_not_zero : residue E.ring m ρ 𝟙 ≢ residue E.ring m ρ 𝟘
  residue_one_not_zero e =
      m_irreducible.not_unit
      (divides_eq E.ring (remainder_congruent E.ring m ρ 𝟙 𝟘 (ap (λ (x : Residue E.ring m ρ). x.0) e)) (minus_zero 𝟙))

  -- the inverse of what it does not divide comes from the sum s m + t x = 1
  pub residue_inverse : (x : Residue E.ring m ρ) → x ≢ residue E.ring m ρ 𝟘 → (y : Residue E.ring m ρ) × (residue E.ring m ρ (x.0 * y.0) ≡ residue E.ring m ρ 𝟙)
  residue_inverse x h = go (irreducible_or L m x.0 m_irreducible)
    where
      go : Divides E.ring m x.0 ⊎ Coprime E.ring m x.0 → (y : Residue E.ring m ρ) × (residue E.ring m ρ (x.0 * y.0) ≡ residue E.ring m ρ 𝟙)
      go (inl d) = absurd (h (residues_equal E.ring m ρ (sym x.1 ∙ ρ.same x.0 𝟘 (divides_eq E.ring d (sym (minus_zero x.0))))))
      go (inr k) =
          let (s, t, e) = coprime_sum L m x.0 k in
          let sum : 𝟙 ≡ x.0 * t + m * s = sym e ∙ simp (Ring.add_comm E.ring, Ring.mul_comm E.ring) in (
            residue E.ring m ρ t,
            residues_equal E.ring m ρ
                (remainder_mul_right E.ring m ρ x.0 t ∙ sym (ρ.same 𝟙 (x.0 * t) (s, sym (Ring.sub_eq E.ring 𝟙 (x.0 * t) (m * s) sum)))),
          )

  -- the field of residues modulo an irreducible element
  abbrev pub residue_field : Field (Residue E.ring m ρ)
  residue_field = record {
    ring = residue_ring E.ring m ρ;
    equal = Σ_prop_discrete (λ a. ring_set E.ring (ρ.remainder a) a) E.equal;
    one_not_zero = residue_one_not_zero;
    inverse = residue_inverse;
  }
