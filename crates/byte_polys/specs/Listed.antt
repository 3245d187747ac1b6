-- The primes that the domains of this kind are made for, as a list. Assumes nothing.
use Rattle.std.specs.Prelude.{◌≡◌, ℕ, zero, suc, ◌<◌, ◌≤◌, Bool, true, false, ◌&&◌, ◌||◌, List, [], ◌∷◌, ◌==◌, nat_le, refl}
use Rattle.std.proofs.Common.{sym, ◌∙◌, subst, inl, inr, eq-or-lt_of_le, le_of_suc-le-suc, arith}
use Rattle.std.proofs.lemmas.Bool.{false≢true, eqb-true, leb-true, or_cases, and_parts}
use Rattle.polynomial_domains.specs.Primes.{prime}

-- all primes from 3 to 251
abbrev pub primes : List ℕ
primes = 3 ∷ 5 ∷ 7 ∷ 11 ∷ 13 ∷ 17 ∷ 19 ∷ 23 ∷ 29 ∷ 31 ∷ 37 ∷ 41 ∷ 43 ∷ 47 ∷ 53 ∷ 59 ∷ 61 ∷ 67 ∷ 71 ∷ 73 ∷ 79 ∷ 83 ∷ 89 ∷ 97 ∷ 101 ∷ 103 ∷ 107 ∷ 109 ∷ 113 ∷ 127 ∷ 131 ∷ 137 ∷ 139 ∷ 149 ∷ 151 ∷ 157 ∷ 163 ∷ 167 ∷ 173 ∷ 179 ∷ 181 ∷ 191 ∷ 193 ∷ 197 ∷ 199 ∷ 211 ∷ 223 ∷ 227 ∷ 229 ∷ 233 ∷ 239 ∷ 241 ∷ 251 ∷ []

-- whether a number stands in a list
abbrev pub among : ℕ → List ℕ → Bool
among p [] = false
among p (q ∷ qs) = q == p || among p qs

-- whether a test holds of each number of a list
abbrev all : (ℕ → Bool) → List ℕ → Bool
all test [] = true
all test (q ∷ qs) = test q && all test qs

-- whether two answers are the same
abbrev same : Bool → Bool → Bool
same true b = b
same false true = false
same false false = true

-- whether a test holds of each number below n
abbrev all_below : (ℕ → Bool) → ℕ → Bool
all_below test zero = true
all_below test (suc n) = test n && all_below test n

-- whether p is in the list of primes
unfoldable pub listed : ℕ → Bool
listed p = among p primes

-- whether p is a prime from 3 to 251
unfoldable pub small_prime : ℕ → Bool
small_prime p = (nat_le 3 p && nat_le p 251) && prime p

-- each number of the list is a prime from 3 to 251
all_small_primes : all small_prime primes ≡ true
unfolding small_prime
all_small_primes = refl

-- and each prime from 3 to 251 is in the list
all_listed : all_below (λ p. same (listed p) (small_prime p)) 252 ≡ true
unfolding listed small_prime
all_listed = refl

-- what holds of each number of a list holds of one among them
all_at : (test : ℕ → Bool) (qs : List ℕ) (p : ℕ) → all test qs ≡ true → among p qs ≡ true → test p ≡ true
all_at test [] p h m = absurd (false≢true m)
all_at test (q ∷ qs) p h m =
    let parts = and_parts (test q) (all test qs) h in
    elim (or_cases (q == p) (among p qs) m) [ inl e ↦ subst (λ x. test x ≡ true) (eqb-true q p e) parts.0 | inr k ↦ all_at test qs p parts.1 k ]

-- what holds of each number below n holds of one below n
below_at : (test : ℕ → Bool) (n p : ℕ) → all_below test n ≡ true → p < n → test p ≡ true
below_at test zero p h l = absurd (omega arith)
below_at test (suc n) p h l =
    let parts = and_parts (test n) (all_below test n) h in
    elim (eq-or-lt_of_le (le_of_suc-le-suc l)) [ inl e ↦ subst (λ x. test x ≡ true) (sym e) parts.0 | inr k ↦ below_at test n p parts.1 k ]

-- if one of two equal answers is yes, so is the other
same_true : (a b : Bool) → same a b ≡ true → b ≡ true → a ≡ true
same_true true b e h = refl
same_true false true e h = e
same_true false false e h = h

-- a listed number is a prime from 3 to 251
pub listed_small_prime : (p : ℕ) → listed p ≡ true → small_prime p ≡ true
unfolding listed
listed_small_prime p h = all_at small_prime primes p all_small_primes h

-- a prime from 3 to 251 is listed
pub small_prime_listed : (p : ℕ) → small_prime p ≡ true → listed p ≡ true
unfolding small_prime
small_prime_listed p h =
    let high = leb-true p 251 (and_parts (nat_le 3 p) (nat_le p 251) (and_parts (nat_le 3 p && nat_le p 251) (prime p) h).0).1 in
    same_true (listed p) (small_prime p) (below_at (λ q. same (listed q) (small_prime q)) 252 p all_listed (omega arith)) h

-- so a listed number is prime,
pub listed_prime : (p : ℕ) → listed p ≡ true → prime p ≡ true
unfolding small_prime
listed_prime p h = (and_parts (nat_le 3 p && nat_le p 251) (prime p) (listed_small_prime p h)).1

-- from 3
pub listed_low : (p : ℕ) → listed p ≡ true → 3 ≤ p
unfolding small_prime
listed_low p h = leb-true 3 p (and_parts (nat_le 3 p) (nat_le p 251) (and_parts (nat_le 3 p && nat_le p 251) (prime p) (listed_small_prime p h)).0).0

-- to 251
pub listed_high : (p : ℕ) → listed p ≡ true → p ≤ 251
unfolding small_prime
listed_high p h = leb-true p 251 (and_parts (nat_le 3 p) (nat_le p 251) (and_parts (nat_le 3 p && nat_le p 251) (prime p) (listed_small_prime p h)).0).1

-- whether p is listed and whether it is a prime from 3 to 251 is the same
pub listed_same : (p : ℕ) → listed p ≡ small_prime p
listed_same p = go (listed p) (small_prime p) refl refl
  where
    go : (x y : Bool) → listed p ≡ x → small_prime p ≡ y → x ≡ y
    go true y e k = sym (sym k ∙ listed_small_prime p e)
    go false true e k = sym e ∙ small_prime_listed p k
    go false false e k = refl
