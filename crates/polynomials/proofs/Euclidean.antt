-- The polynomials over a field are a Euclidean ring: the size is the degree, and normal means monic. Assumes nothing.
use mathlib.Core.Path.{◌≡◌, sym, ap, ap₂, ◌∙◌}
use mathlib.Core.Bool.{true}
use mathlib.Core.Logic.{◌≢◌, ◌⊎◌, inl, inr}
use Prim.Native.Nat.{◌<◌}
use Rattle.algebra.specs.Field.{Field}
use Rattle.algebra.specs.Divisibility.{IsUnit}
use Rattle.algebra.specs.Euclidean.{Euclidean, EuclideanLaws, Division}
use Rattle.algebra.proofs.Ring
use Rattle.polynomials.specs.Polynomial.{Polynomial, zero_polynomial, monomial, times, degree, leading, monic}
use Rattle.polynomials.specs.Remainder.{remainder}
use Rattle.polynomials.proofs.Equality.{equal_polynomials}
use Rattle.polynomials.proofs.Ring.{polynomial_ring}
use Rattle.polynomials.proofs.Degree
use Rattle.polynomials.proofs.Units
use Rattle.polynomials.proofs.Division.{quotient_remainder, remainder_small}

module _ {K : Type 0} (𝓚 : Field K) where
  open 𝓚.ring use {mul as ◌⊙◌, zero as 𝟘, one as 𝟙}

  infixl 70 ◌⊙◌
  abbrev pub polynomials : Euclidean (Polynomial 𝓚)
  polynomials = record { ring = polynomial_ring 𝓚; equal = equal_polynomials 𝓚; size = degree 𝓚; normal = monic 𝓚 }

  -- division with remainder, by anything but 0
  pub divide_polynomials : (p m : Polynomial 𝓚) → m ≢ zero_polynomial 𝓚 → (q : Polynomial 𝓚) × (r : Polynomial 𝓚) × Division polynomials p m q r
  divide_polynomials p m h =
      let (q, e) = quotient_remainder 𝓚 m p in
      (q, remainder 𝓚 m p, record { sum = e; small = small (equal_polynomials 𝓚 (remainder 𝓚 m p) (zero_polynomial 𝓚)) })
    where
      small : Dec (remainder 𝓚 m p ≡ zero_polynomial 𝓚) → (remainder 𝓚 m p ≡ zero_polynomial 𝓚) ⊎ (degree 𝓚 (remainder 𝓚 m p) < degree 𝓚 m)
      small (yes e) = inl e
      small (no k) = inr (Degree.degree_below 𝓚 (remainder 𝓚 m p) (degree 𝓚 m) k (remainder_small 𝓚 m h p))

  -- every non-zero polynomial has a unit multiple that is monic
  monic_multiple : (p : Polynomial 𝓚) → p ≢ zero_polynomial 𝓚 → (u : Polynomial 𝓚) × IsUnit (polynomial_ring 𝓚) u × (monic 𝓚 (times 𝓚 u p) ≡ true)
  monic_multiple p h = (monomial 𝓚 c 0, Units.constant_unit 𝓚 c c_not_zero, Units.leading_monic 𝓚 _ is_one)
    where
      c : K
      c = (𝓚.inverse (leading 𝓚 p) (Degree.leading_not_zero 𝓚 p h)).0

      product : leading 𝓚 p ⊙ c ≡ 𝟙
      product = (𝓚.inverse (leading 𝓚 p) (Degree.leading_not_zero 𝓚 p h)).1

      c_not_zero : c ≢ 𝟘
      c_not_zero e = 𝓚.one_not_zero (sym product ∙ ap (λ x. leading 𝓚 p ⊙ x) e ∙ Ring.mul-zero 𝓚.ring (leading 𝓚 p))

      is_one : leading 𝓚 (times 𝓚 (monomial 𝓚 c 0) p) ≡ 𝟙
      is_one =
          Degree.leading_times 𝓚 (monomial 𝓚 c 0) p (Degree.monomial_not_zero 𝓚 c 0 c_not_zero) h
          ∙ ap (λ x. x ⊙ leading 𝓚 p) (Degree.leading_monomial 𝓚 c 0 c_not_zero)
          ∙ Ring.mul_comm 𝓚.ring c (leading 𝓚 p)
          ∙ product

  -- and only one
  monic_unique : (p u v : Polynomial 𝓚) → p ≢ zero_polynomial 𝓚 → IsUnit (polynomial_ring 𝓚) u → IsUnit (polynomial_ring 𝓚) v
      → monic 𝓚 (times 𝓚 u p) ≡ true → monic 𝓚 (times 𝓚 v p) ≡ true → times 𝓚 u p ≡ times 𝓚 v p
  monic_unique p u v h hu hv mu mv = ap (λ w. times 𝓚 w p) (Units.constants_equal 𝓚 u v (Units.unit_degree 𝓚 u hu) (Units.unit_degree 𝓚 v hv) same)
    where
      both : leading 𝓚 u ⊙ leading 𝓚 p ≡ leading 𝓚 v ⊙ leading 𝓚 p
      both =
          sym (Degree.leading_times 𝓚 u p (Units.unit_not_zero 𝓚 u hu) h)
          ∙ Units.monic_leading 𝓚 (times 𝓚 u p) mu
          ∙ sym (Units.monic_leading 𝓚 (times 𝓚 v p) mv)
          ∙ Degree.leading_times 𝓚 v p (Units.unit_not_zero 𝓚 v hv) h

      same : leading 𝓚 u ≡ leading 𝓚 v
      same = Degree.cancel_right 𝓚 (leading 𝓚 u) (leading 𝓚 v) (leading 𝓚 p) (Degree.leading_not_zero 𝓚 p h) both

  -- the polynomials keep the laws of a Euclidean ring
  pub polynomial_laws : EuclideanLaws polynomials
  polynomial_laws = record {
    one_not_zero = Degree.one_not_zero_polynomial 𝓚;
    no_zero_divisors = Degree.times_not_zero 𝓚;
    divide = divide_polynomials;
    size_product = Units.degree_left 𝓚;
    normal_multiple = monic_multiple;
    normal_unique = monic_unique;
    normal_one = Units.leading_monic 𝓚 _ (Degree.leading_one 𝓚);
    normal_product = λ p q hp hq.
        let lp : leading 𝓚 p ≡ 𝟙 = Units.monic_leading 𝓚 p hp in
        let lq : leading 𝓚 q ≡ 𝟙 = Units.monic_leading 𝓚 q hq in
        Units.leading_monic 𝓚 (times 𝓚 p q)
        (Degree.leading_times 𝓚 p q (Units.monic_not_zero 𝓚 p lp) (Units.monic_not_zero 𝓚 q lq) ∙ ap₂ ◌⊙◌ lp lq ∙ Ring.mul-one 𝓚.ring 𝟙);
  }
