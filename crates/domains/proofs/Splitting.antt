-- Why a modulus splits into two halves by a proper factor. Assumes nothing.
use Rattle.std.proofs.Common.{◌≡◌, ℕ, zero, suc, ◌≤◌, Bool, true, false, cond, ◌&&◌, ◌≢◌, ◌⊎◌, List, [], ◌∷◌, length, MatchBool, sym, refl, ap, ◌∙◌, subst, inl, inr, arith, eq-eqb}
use Rattle.std.proofs.lemmas.Bool.Decides.{when_true, when_false}
use Rattle.std.proofs.lemmas.Bool.{and_from, and_parts}
use mathlib.Mathlib.Algebra.Ring.Defs.{CommRing}
use Rattle.algebra.specs.Divisibility.{Divides, IsUnit, Irreducible, Coprime, Squarefree, product, NonUnits}
use Rattle.algebra.specs.Euclidean.{Division}
use Rattle.algebra.proofs.Ring.{mul_comm, mul_assoc, mul_left_comm, mul-one, one-mul, zero-mul, add-zero}
use Rattle.algebra.proofs.Divides.{divides_self, divides_eq, divides_trans, divides_left, divides_right, unit_multiple_divides, squarefree_divisor, squarefree_coprime}
use Rattle.algebra.proofs.Bezout.{cancel, divisor_nonzero, divisor_size, zero_no_unit, divides_remainder}
use Rattle.algebra.proofs.Primes.{irreducible_prime}
use Rattle.domains.specs.Meaning.{Meaning, Laws, SquarefreeModulus}
use Rattle.domains.specs.Answers.{Divided, IsZero, Zeros, zero_word}
use Rattle.domains.specs.Split.{ProperFactor, Halved, SplitInto}
use Rattle.domains.specs.SplitLaws.{Splitting, SplitLaws}
use Rattle.domains.specs.View.{View, Lawful, IsModulusQuotient}
use Rattle.domains.proofs.Calls.{legal_element}

module _ {M : Meaning} (L : Laws M) where
  open M.euclidean.ring use {mul as ◌*◌, zero as 𝟘, one as 𝟙}

  infixl 70 ◌*◌
  abbrev 𝓡 : CommRing M.Element
  𝓡 = M.euclidean.ring

  abbrev zeros : ℕ → List M.Element
  zeros zero = []
  zeros (suc n) = 𝟘 ∷ zeros n

  zeros_no_units : (n : ℕ) → NonUnits 𝓡 (zeros n)
  zeros_no_units zero = tt
  zeros_no_units (suc n) = (zero_no_unit L.euclidean, zeros_no_units n)

  -- 0 is not legal: it is a product of 33 non-units, all 0
  pub legal_nonzero : (m : M.Element) → M.legal m ≡ true → m ≢ 𝟘
  legal_nonzero m l z =
      let few : length (zeros 33) ≤ 32 = L.few_factors m (zeros 33) l (zeros_no_units 33) (zero-mul 𝓡 (product 𝓡 (zeros 32)) ∙ sym z) in
      absurd (omega arith)

  -- a normal element divided by a normal element is normal
  pub quotient_normal : (g q m : M.Element) → m ≢ 𝟘 → g * q ≡ m → M.euclidean.normal g ≡ true → M.euclidean.normal m ≡ true → M.euclidean.normal q ≡ true
  quotient_normal g q m ne e ng nm = subst (λ x. M.euclidean.normal x ≡ true) same n.2
    where
      q_nonzero : q ≢ 𝟘
      q_nonzero = divisor_nonzero L.euclidean (divides_eq 𝓡 (divides_right 𝓡 g q) e) ne

      g_nonzero : g ≢ 𝟘
      g_nonzero = divisor_nonzero L.euclidean (divides_eq 𝓡 (divides_left 𝓡 g q) e) ne

      n : (u : M.Element) × IsUnit 𝓡 u × (M.euclidean.normal (u * q) ≡ true)
      n = L.euclidean.normal_multiple q q_nonzero

      moved : g * (n.0 * q) ≡ n.0 * m
      moved = mul_left_comm 𝓡 g n.0 q ∙ ap (λ x. n.0 * x) e

      whole : n.0 * m ≡ 𝟙 * m
      whole = L.euclidean.normal_unique m n.0 𝟙 ne n.1 (divides_self 𝓡 𝟙) (subst (λ x. M.euclidean.normal x ≡ true) moved (L.euclidean.normal_product g (n.0 * q) ng n.2)) (subst (λ x. M.euclidean.normal x ≡ true) (sym (one-mul 𝓡 m)) nm)

      same : n.0 * q ≡ q
      same = cancel L.euclidean g (n.0 * q) q g_nonzero (moved ∙ whole ∙ one-mul 𝓡 m ∙ sym e)

  -- a division without remainder is a product
  pub exact_product : {m g q r : M.Element} → Division M.euclidean m g q r → r ≡ 𝟘 → g * q ≡ m
  exact_product {m} {g} {q} {r} v z = mul_comm 𝓡 g q ∙ sym (add-zero 𝓡 (q * g)) ∙ ap (M.euclidean.ring.add (q * g)) (sym z) ∙ sym v.sum

  -- and division by a divisor leaves none
  pub divisor_exact : {m g q r : M.Element} → Division M.euclidean m g q r → Divides 𝓡 g m → r ≡ 𝟘
  divisor_exact {m} {g} {q} {r} v d = by (M.euclidean.equal r 𝟘)
    where
      by : Dec (r ≡ 𝟘) → r ≡ 𝟘
      by (yes z) = z
      by (no n) =
          let low : M.euclidean.size g ≤ M.euclidean.size r = divisor_size L.euclidean (divides_remainder L.euclidean v d (divides_self 𝓡 g)) n in
          elim v.small [ inl z ↦ z | inr s ↦ absurd (omega arith) ]

  -- a normal non-unit divisor of a modulus is a modulus, by its canonical word
  pub divisor_modulus : (m : M.Element) (w : ℕ) → M.legal m ≡ true → Squarefree 𝓡 m → M.word (M.element w) ≡ w → Divides 𝓡 (M.element w) m → M.euclidean.normal (M.element w) ≡ true → ¬ IsUnit 𝓡 (M.element w) → SquarefreeModulus M w
  divisor_modulus m w l s spelled d n u = record {
    legal = and_from _ _ (L.legal_divisor m (M.element w) l d n u) (eq-eqb _ _ spelled);
    squarefree = squarefree_divisor 𝓡 d s;
  }

  module _ (m : M.Element) (legal : M.legal m ≡ true) (squarefree : Squarefree 𝓡 m) (g : ℕ) (proper : ProperFactor M m (M.element g)) where
    pub factor_nonzero : M.element g ≢ 𝟘
    factor_nonzero = divisor_nonzero L.euclidean proper.divides (legal_nonzero m legal)

    -- the factor is a modulus
    pub factor_modulus : M.word (M.element g) ≡ g → SquarefreeModulus M g
    factor_modulus spelled = divisor_modulus m g legal squarefree spelled proper.divides proper.normal proper.not_unit

    -- and so is what it leaves of m
    pub cofactor_modulus : (q : ℕ) → M.word (M.element q) ≡ q → M.element g * M.element q ≡ m → SquarefreeModulus M q
    cofactor_modulus q spelled e = divisor_modulus m q legal squarefree spelled (divides_eq 𝓡 (divides_right 𝓡 (M.element g) (M.element q)) e) (quotient_normal (M.element g) (M.element q) m (legal_nonzero m legal) e proper.normal (L.legal_normal m legal)) (λ u. proper.not_all (divides_trans 𝓡 (divides_eq 𝓡 (divides_self 𝓡 m) (sym e ∙ mul_comm 𝓡 (M.element g) (M.element q))) (unit_multiple_divides 𝓡 (M.element g) u)))

  -- a product of two moduli has the first for a proper factor
  pub product_proper : (m f c : M.Element) → f * c ≡ m → M.legal f ≡ true → M.legal c ≡ true → ProperFactor M m f
  product_proper m f c e lf lc = record {
    divides = (c, e);
    normal = L.legal_normal f lf;
    not_unit = L.legal_no_unit f lf;
    not_all = λ d. L.legal_no_unit c lc (d.0, cancel L.euclidean f (c * d.0) 𝟙 (legal_nonzero f lf) (sym (mul_assoc 𝓡 f c d.0) ∙ ap (λ x. x * d.0) e ∙ d.1 ∙ sym (mul-one 𝓡 f)));
  }

  -- two factors of a squarefree product halve it
  pub halved : (m f c : M.Element) → Squarefree 𝓡 m → f * c ≡ m → Halved M m f c
  halved m f c s e = record { product = e; coprime = apart; one_half = one }
    where
      apart : Coprime 𝓡 f c
      apart = squarefree_coprime 𝓡 f c (subst (Squarefree 𝓡) (sym e) s)

      one : (p : M.Element) → Irreducible 𝓡 p → Divides 𝓡 p m → (Divides 𝓡 p f × (¬ Divides 𝓡 p c)) ⊎ (Divides 𝓡 p c × (¬ Divides 𝓡 p f))
      one p i d = elim (irreducible_prime L.euclidean p f c i (divides_eq 𝓡 d (sym e))) [ inl x ↦ inl (x, λ y. i.not_unit (apart p x y)) | inr y ↦ inr (y, λ x. i.not_unit (apart p x y)) ]

  -- Where quotient and factor are moduli, the arguments were the domain's own and the factor proper.
  module _ (x z : Bool) (m g q r f c : ℕ) (parts : MatchBool (z && x) (Divided M m g q r) (Zeros M q r)) (rest : IsZero M r) (f_is : f ≡ cond x g 0) (c_is : c ≡ q) (factor : SquarefreeModulus M f) (cofactor : SquarefreeModulus M c) (modulus : z ≡ true → SquarefreeModulus M m) where
    quotient_nonzero : ¬ (q ≡ zero_word M)
    quotient_nonzero e = legal_nonzero (M.element c) (legal_element M c cofactor.legal) (ap M.element (c_is ∙ e) ∙ L.word_zero)

    own : (b : Bool) → (z && x) ≡ b → (z && x) ≡ true
    own true e = e
    own false e = absurd (quotient_nonzero (when_false (Divided M m g q r) (Zeros M q r) e parts).0)

    own_both : (z && x) ≡ true
    own_both = own (z && x) refl

    f_is_g : f ≡ g
    f_is_g = f_is ∙ ap (λ b. cond b g 0) (and_parts z x own_both).1

    divided : Division M.euclidean (M.element m) (M.element g) (M.element q) (M.element r)
    divided = let d = when_true (Divided M m g q r) (Zeros M q r) own_both parts in d.by_nonzero (λ e. quotient_nonzero (d.by_zero e).0)

    product_is : M.element f * M.element c ≡ M.element m
    product_is = ap (λ w. M.element w * M.element c) f_is_g ∙ ap (λ w. M.element g * M.element w) c_is ∙ exact_product divided rest

    pub split_into : SplitInto M (x && z) m g f c
    split_into = record {
      splits = record {
        own_words = and_from _ _ (and_parts z x own_both).1 (and_parts z x own_both).0;
        proper = subst (λ w. ProperFactor M (M.element m) (M.element w)) f_is_g (product_proper (M.element m) (M.element f) (M.element c) product_is (legal_element M f factor.legal) (legal_element M c cofactor.legal));
      };
      factor = f_is_g;
      halved = halved (M.element m) (M.element f) (M.element c) (modulus (and_parts z x own_both).0).squarefree product_is;
    }

-- The laws of a split hold.
module _ {V : Type 0} {N : Type 0} {D : View V N} (lawful : Lawful D) (m : N) (g : V) where
  abbrev L : Laws D.meaning
  L = lawful.laws

  -- the element of m
  abbrev modulus : D.meaning.Element
  modulus = D.meaning.element (D.modulus_word m)

  module _ (s : Splitting D m g) where
    own_g : D.own g ≡ true
    own_g = (and_parts (D.own g) (D.own_modulus m) s.own_words).0

    own_m : D.own_modulus m ≡ true
    own_m = (and_parts (D.own g) (D.own_modulus m) s.own_words).1

    legal_m : D.meaning.legal modulus ≡ true
    legal_m = legal_element D.meaning (D.modulus_word m) (lawful.sound m own_m).legal

    division : (q r : V) → IsModulusQuotient D m g q r → Division D.meaning.euclidean modulus (D.meaning.element (D.word g)) (D.meaning.element (D.word q)) (D.meaning.element (D.word r))
    division q r p = (when_true (Divided D.meaning (D.modulus_word m) (D.word g) (D.word q) (D.word r)) (Zeros D.meaning (D.word q) (D.word r)) (and_from _ _ own_m own_g) p).by_nonzero (factor_nonzero L modulus legal_m (lawful.sound m own_m).squarefree (D.word g) s.proper)

  pub split_laws : SplitLaws D m g
  split_laws = record {
    exact = λ q r o p z. record { rest = r; own_quotient = o.0; parts = p; no_rest = z.1 };
    no_rest = λ q r o p more s. more (o.1, divisor_exact L (division s q r p) s.proper.divides);
    no_factor = λ none s. none (subst (SquarefreeModulus D.meaning) (sym (ap (λ b. cond b (D.word g) 0) (own_g s))) (factor_modulus L modulus (legal_m s) (lawful.sound m (own_m s)).squarefree (D.word g) s.proper (lawful.spelled g (own_g s))));
    no_cofactor = λ q x none s. none (subst (SquarefreeModulus D.meaning) (sym (ap (λ b. cond b (D.word q) 0) x.own_quotient)) (cofactor_modulus L modulus (legal_m s) (lawful.sound m (own_m s)).squarefree (D.word g) s.proper (D.word q) (lawful.spelled q x.own_quotient) (exact_product L (division s q x.rest x.parts) x.no_rest)));
    halves = λ q f c x f_is c_is. record {
      own_factor = f_is.0;
      own_cofactor = c_is.0;
      split_into = split_into L (D.own g) (D.own_modulus m) (D.modulus_word m) (D.word g) (D.word q) (D.word x.rest) (D.modulus_word f) (D.modulus_word c) x.parts x.no_rest f_is.1 (c_is.1 ∙ ap (λ b. cond b (D.word q) 0) x.own_quotient) (lawful.sound f f_is.0) (lawful.sound c c_is.0) (lawful.sound m);
    };
  }
