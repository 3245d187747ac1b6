-- The laws of the chain hold. Assumes nothing.
use Rattle.std.proofs.Common.{◌≡◌, ℕ, Bool, true, sym, ap, ◌∙◌}
use Rattle.std.proofs.lemmas.Bool.Decides.{when_true}
use Rattle.std.proofs.lemmas.Bool.{and_from}
use mathlib.Mathlib.Algebra.Ring.Defs.{CommRing}
use Rattle.algebra.specs.Divisibility.{minus, Congruent}
use Rattle.algebra.specs.Euclidean.{Division}
use Rattle.algebra.proofs.Ring.{add_comm, mul_assoc, one-mul, add_mul, neg_mul, sub_eq, zero-add, neg_neg, sub_self}
use Rattle.algebra.proofs.Divides.{divides_self, divides_zero, divides_eq}
use Rattle.algebra.proofs.Congruence.{congruent_eq, congruent_symmetric, congruent_trans, congruent_sub, congruent_mul, congruent_product, congruent_self}
use Rattle.algebra.proofs.Bezout.{divides_remainder, divides_dividend}
use Rattle.algebra.proofs.CommonDivisors.{weight_falls}
use Rattle.domains.specs.Answers.{IsZero, Divided, Normalized, Zeros, difference, times}
use Rattle.domains.specs.Chain.{Chained, Open, Dividing, Constants, ChainLaws}
use Rattle.domains.specs.declared.chain.Link.{Link}
use Rattle.domains.specs.Meaning.{Meaning, Laws}
use Rattle.domains.specs.View.{View, Lawful, IsDifference, IsModulusQuotient, IsNormalMultiple, IsProduct, IsQuotient, OwnPair}
use Rattle.domains.proofs.Calls.{answer_element, answer_congruent, legal_element}

module _ {V : Type 0} {N : Type 0} {D : View V N} (lawful : Lawful D) (n : N) (a : V) where
  abbrev M : Meaning
  M = D.meaning

  abbrev own : V → Bool
  own = D.own

  abbrev word : V → ℕ
  word = D.word

  abbrev own_m : Bool
  own_m = D.own_modulus n

  abbrev m : ℕ
  m = D.modulus_word n

  abbrev L : Laws M
  L = lawful.laws

  legal : own_m ≡ true → M.legal (M.element m) ≡ true
  legal o = legal_element M m (lawful.sound n o).legal

  open D.meaning.euclidean.ring use {add as ◌+◌, mul as ◌*◌, zero as 𝟘, neg, one as 𝟙}

  infixl 65 ◌+◌
  infixl 70 ◌*◌
  abbrev 𝓡 : CommRing M.Element
  𝓡 = M.euclidean.ring

  abbrev el : V → M.Element
  el v = M.element (word v)

  pub chain_constants : (z k e : V) → Dividing D n a → IsDifference D a a n z → own z ≡ true → IsNormalMultiple D z k e → OwnPair D k e → Constants D n a z e
  chain_constants z k e begin z-is oz k-is one = record { own_zero = oz; own_one = one.1; is_zero = zero_is; is_one = one_is }
    where
      zero_is : IsZero M (word z)
      zero_is = answer_element L (legal begin.own_modulus) (difference M (word a) (word a)) (and_from _ _ (and_from _ _ begin.own_value begin.own_value) begin.own_modulus) z-is ∙ ap (M.remainder (M.element m)) (sub_self 𝓡 (el a)) ∙ L.remainder_zero (M.element m) (legal begin.own_modulus)

      one_is : el e ≡ 𝟙
      one_is = ap M.element ((when_true (Normalized M (word z) (word k) (word e)) (Zeros M (word k) (word e)) oz k-is).of_zero zero_is).1 ∙ L.word_one

  pub chain_start : (z e q r c : V) → Dividing D n a → Constants D n a z e → IsModulusQuotient D n a q r → OwnPair D q r → IsDifference D z q n c → own c ≡ true → Chained D n a (record { last = a; last_cofactor = e; next = r; next_cofactor = c })
  chain_start z e q r c begin k divided qr c_is oc = record {
    own_modulus = om;
    own_last = oa;
    own_last_cofactor = k.own_one;
    own_next = qr.1;
    own_next_cofactor = oc;
    last_multiple = congruent_eq 𝓡 (sym (ap (λ x. x * el a) k.is_one ∙ one-mul 𝓡 (el a)));
    next_multiple = congruent_symmetric 𝓡 (congruent_trans 𝓡 (congruent_product 𝓡 (congruent_trans 𝓡 cofactor (congruent_eq 𝓡 (ap (λ x. minus 𝓡 x (el q)) k.is_zero))) (congruent_self 𝓡 (el a))) minus_quotient);
    down_last = λ d p s. p;
    down_next = λ d p s. divides_remainder L.euclidean v s p;
    up_value = λ d p s. p;
    up_modulus = λ d p s. divides_dividend L.euclidean v p s;
    last_nonzero = begin.nonzero;
  }
    where
      oa : own a ≡ true
      oa = begin.own_value

      om : own_m ≡ true
      om = begin.own_modulus

      v : Division M.euclidean (M.element m) (el a) (el q) (el r)
      v = (when_true (Divided M m (word a) (word q) (word r)) (Zeros M (word q) (word r)) (and_from _ _ om oa) divided).by_nonzero begin.nonzero

      cofactor : Congruent 𝓡 (M.element m) (el c) (difference M (word z) (word q))
      cofactor = answer_congruent L (legal om) (difference M (word z) (word q)) (and_from _ _ (and_from _ _ k.own_zero qr.0) om) c_is

      -- (0 − q) a − r = −m
      minus_quotient : Congruent 𝓡 (M.element m) (minus 𝓡 𝟘 (el q) * el a) (el r)
      minus_quotient =
          congruent_symmetric 𝓡 (divides_eq 𝓡 (divides_self 𝓡 (M.element m)) (v.sum ∙ add_comm 𝓡 (el q * el a) (el r) ∙ ap (λ x. el r + x) (sym (ap (λ x. neg (x * el a)) (zero-add 𝓡 (neg (el q))) ∙ ap neg (neg_mul 𝓡 (el q) (el a)) ∙ neg_neg 𝓡 (el q * el a)))))

  -- the division of an open link
  division : (l : Link V) (q r : V) → Open D n a l → IsQuotient D l.last l.next q r → Division M.euclidean (el l.last) (el l.next) (el q) (el r)
  division l q r o divided = (when_true (Divided M (word l.last) (word l.next) (word q) (word r)) (Zeros M (word q) (word r)) (and_from _ _ o.chained.own_last o.chained.own_next) divided).by_nonzero (λ z. o.more (o.chained.own_next, z))

  pub chain_step : (l : Link V) (q r p c : V) → Open D n a l → IsQuotient D l.last l.next q r → OwnPair D q r → IsProduct D q l.next_cofactor n p → own p ≡ true → IsDifference D l.last_cofactor p n c → own c ≡ true → Chained D n a (record { last = l.next; last_cofactor = l.next_cofactor; next = r; next_cofactor = c })
  chain_step l q r p c o divided qr p-is op c_is oc = record {
    own_modulus = om;
    own_last = h.own_next;
    own_last_cofactor = h.own_next_cofactor;
    own_next = qr.1;
    own_next_cofactor = oc;
    last_multiple = h.next_multiple;
    next_multiple = congruent_trans 𝓡 (congruent_eq 𝓡 (sym (sub_eq 𝓡 (el l.last) (el q * el l.next) (el r) v.sum))) (congruent_trans 𝓡 (congruent_sub 𝓡 h.last_multiple (congruent_mul 𝓡 (el q) h.next_multiple)) (congruent_trans 𝓡 (congruent_eq 𝓡 gathered) (congruent_symmetric 𝓡 (congruent_product 𝓡 cofactor (congruent_self 𝓡 (el a))))));
    down_last = h.down_next;
    down_next = λ d x y. divides_remainder L.euclidean v (h.down_last d x y) (h.down_next d x y);
    up_value = λ d x y. h.up_value d (divides_dividend L.euclidean v x y) x;
    up_modulus = λ d x y. h.up_modulus d (divides_dividend L.euclidean v x y) x;
    last_nonzero = λ z. o.more (h.own_next, z);
  }
    where
      h : Chained D n a l
      h = o.chained

      om : own_m ≡ true
      om = o.chained.own_modulus

      v : Division M.euclidean (el l.last) (el l.next) (el q) (el r)
      v = division l q r o divided

      product : Congruent 𝓡 (M.element m) (el p) (times M (word q) (word l.next_cofactor))
      product = answer_congruent L (legal o.chained.own_modulus) (times M (word q) (word l.next_cofactor)) (and_from _ _ (and_from _ _ qr.0 o.chained.own_next_cofactor) o.chained.own_modulus) p-is

      cofactor : Congruent 𝓡 (M.element m) (el c) (minus 𝓡 (el l.last_cofactor) (el q * el l.next_cofactor))
      cofactor =
          congruent_trans 𝓡 (answer_congruent L (legal o.chained.own_modulus) (difference M (word l.last_cofactor) (word p)) (and_from _ _ (and_from _ _ o.chained.own_last_cofactor op) o.chained.own_modulus) c_is) (congruent_sub 𝓡 (congruent_self 𝓡 (el l.last_cofactor)) product)

      gathered : minus 𝓡 (el l.last_cofactor * el a) (el q * (el l.next_cofactor * el a)) ≡ minus 𝓡 (el l.last_cofactor) (el q * el l.next_cofactor) * el a
      gathered = simp (add_mul 𝓡, neg_mul 𝓡, mul_assoc 𝓡)

  -- what the chain keeps, from the laws of the domain
  pub chain_laws : ChainLaws D n a
  chain_laws = record {
    constants = chain_constants;
    start = chain_start;
    step = chain_step;
    falls = λ l q r o divided. weight_falls L.euclidean (el l.last) (el l.next) (el q) (el r) (division l q r o divided) (λ z. o.more (o.chained.own_next, z));
    end = λ l h z.
        let gone = divides_eq 𝓡 (divides_zero 𝓡 (el l.last)) (sym z.1) in
        record {
          own_divisor = h.own_last;
          own_cofactor = h.own_last_cofactor;
          descended = record {
            greatest = record {
              divides_left = h.up_value (el l.last) (divides_self 𝓡 (el l.last)) gone;
              divides_right = h.up_modulus (el l.last) (divides_self 𝓡 (el l.last)) gone;
              greatest = h.down_last;
            };
            multiple = h.last_multiple;
            not_zero = h.last_nonzero;
          };
        };
  }
