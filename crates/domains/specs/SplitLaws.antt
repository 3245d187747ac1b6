-- What the laws of a domain say of a split, from the answers of the domain's calls. Assumes nothing.
use Rattle.std.specs.Prelude.{◌≡◌, true, ◌&&◌}
use Rattle.domains.specs.Answers.{IsZero}
use Rattle.domains.specs.Meaning.{SquarefreeModulus}
use Rattle.domains.specs.Split.{Splits, SplitInto}
use Rattle.domains.specs.View.{View, IsModulus, IsModulusQuotient, OwnPair, OwnZero, shown_word}
use Rattle.domains.specs.declared.split.Halves.{Halves}

module _ {V : Type 0} {N : Type 0} (D : View V N) (m : N) (g : V) where
  -- g splits m
  abbrev pub Splitting : Type 0
  Splitting = Splits D.meaning (D.own g && D.own_modulus m) (D.modulus_word m) (D.word g)

  -- the halves of m by g, both of them the domain's own
  pub record Halved (h : Halves N) : Type 0 where
    pub own_factor : D.own_modulus h.factor ≡ true
    pub own_cofactor : D.own_modulus h.cofactor ≡ true
    pub split_into : SplitInto D.meaning (D.own g && D.own_modulus m) (D.modulus_word m) (D.word g) (D.modulus_word h.factor) (D.modulus_word h.cofactor)

  -- q is the quotient of m by g, as the domain answers it, with no rest
  pub record Exact (q : V) : Type 0 where
    pub rest : V
    pub own_quotient : D.own q ≡ true
    pub parts : IsModulusQuotient D m g q rest
    pub no_rest : IsZero D.meaning (D.word rest)

  -- what the laws say of a split, in terms of what the domain's calls answer
  pub record SplitLaws : Type 0 where
    pub exact : (q r : V) → OwnPair D q r → IsModulusQuotient D m g q r → OwnZero D r → Exact q
    -- a factor leaves no rest
    pub no_rest : (q r : V) → OwnPair D q r → IsModulusQuotient D m g q r → ¬ OwnZero D r → ¬ Splitting
    -- it is a modulus
    pub no_factor : ¬ SquarefreeModulus D.meaning (shown_word D g) → ¬ Splitting
    -- and so is what it leaves of m
    pub no_cofactor : (q : V) → Exact q → ¬ SquarefreeModulus D.meaning (shown_word D q) → ¬ Splitting
    -- and where both are moduli, they are the halves
    pub halves : (q : V) (f c : N) → Exact q → IsModulus D (shown_word D g) f → IsModulus D (shown_word D q) c → Halved (record { factor = f; cofactor = c })
