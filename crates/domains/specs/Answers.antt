-- What the calls of a domain answer. A value or modulus is known here by its word, and `own` says whether all
-- arguments of the call are the domain's own: for any other the answer is 0, or no. Assumes nothing.
use Rattle.std.specs.Prelude.{◌≡◌, ℕ, Bool, true, cond, MatchBool}
use Rattle.algebra.specs.Divisibility.{IsUnit}
use Rattle.algebra.specs.Euclidean.{Division}
use Rattle.domains.specs.Meaning.{Meaning, residue}

-- r is true where P holds, and false where it does not
abbrev pub Decides : Bool → Type 0 → Type 0
Decides r P = MatchBool r P (¬ P)

module _ (M : Meaning) where
  -- the canonical words of the ring's 0 and 1
  abbrev pub zero_word : ℕ
  zero_word = M.word M.euclidean.ring.zero

  abbrev pub one_word : ℕ
  one_word = M.word M.euclidean.ring.one

  -- the residue modulo the element of the word m
  abbrev pub Residue : Bool → ℕ → M.Element → ℕ → Type 0
  Residue own m a r = r ≡ cond own (residue M (M.element m) a) zero_word

  -- a sum, a difference and a product of the elements of two words
  abbrev pub sum : ℕ → ℕ → M.Element
  sum a b = M.euclidean.ring.add (M.element a) (M.element b)

  abbrev pub difference : ℕ → ℕ → M.Element
  difference a b = M.euclidean.ring.add (M.element a) (M.euclidean.ring.neg (M.element b))

  abbrev pub times : ℕ → ℕ → M.Element
  times a b = M.euclidean.ring.mul (M.element a) (M.element b)

  -- the word stands for 0
  abbrev pub IsZero : ℕ → Type 0
  IsZero a = M.element a ≡ M.euclidean.ring.zero

  -- quotient q and remainder r of a by b: by a non-zero b as in `Division`, by 0 the answer is 0 and a
  pub record Divided (a b q r : ℕ) : Type 0 where
    pub by_nonzero : ¬ IsZero b → Division M.euclidean (M.element a) (M.element b) (M.element q) (M.element r)
    pub by_zero : IsZero b → (q ≡ zero_word) × (r ≡ a)

  -- n is the normal multiple of a, by the unit u
  pub record NormalMultiple (a n u : ℕ) : Type 0 where
    pub unit : IsUnit M.euclidean.ring (M.element u)
    pub multiple : M.element n ≡ times u a
    pub normal : M.euclidean.normal (M.element n) ≡ true

  -- the normal multiple of a and the unit used; for 0 they are 0 and 1
  pub record Normalized (a n u : ℕ) : Type 0 where
    pub of_nonzero : ¬ IsZero a → NormalMultiple a n u
    pub of_zero : IsZero a → (n ≡ zero_word) × (u ≡ one_word)

  -- two answers that are both 0
  abbrev pub Zeros : ℕ → ℕ → Type 0
  Zeros x y = (x ≡ zero_word) × (y ≡ zero_word)
