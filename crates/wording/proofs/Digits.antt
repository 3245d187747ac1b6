-- Rows of digits, one more at a time. Assumes nothing.
use Rattle.std.proofs.Common.{◌≡◌, ℕ, zero, suc, ◌+◌, ◌-◌, ◌*◌, ◌^◌, ◌<◌, Bool, true, false, cond, ◌&&◌, ltb, List, [], ◌∷◌, ◌++◌, length, get_or, take, Some, None, Ok, Err, Option, sym, refl, ap, ◌∙◌, arith, lt-ltb}
use Rattle.std.specs.Option.{ok_or}
use Rattle.std.proofs.lemmas.Bool.{and_from, and_parts}
use Rattle.std.proofs.lemmas.List.{take_more}
use Rattle.std.proofs.lemmas.List.Sums.{fold_push}
use Rattle.wording.specs.Decimal.{digit, all_digits, positional, fitting, decimal_value}
use Rattle.wording.specs.declared.number.NumberFault.TheVariants.{NoDigits, PastLimit}

all_push : (xs : List ℕ) (b : ℕ) → digit b ≡ true → all_digits xs ≡ true → all_digits (xs ++ (b ∷ [])) ≡ true
all_push [] b d p = and_from (digit b) true d refl
all_push (x ∷ xs) b d p =
    let q = and_parts (digit x) (all_digits xs) p in
    and_from (digit x) (all_digits (xs ++ (b ∷ []))) q.0 (all_push xs b d q.1)

-- one digit more
pub all_more : (xs : List ℕ) (i : ℕ) → i < length xs → digit (get_or xs i 0) ≡ true → all_digits (take i xs) ≡ true → all_digits (take (i + 1) xs) ≡ true
all_more xs i h d p = ap all_digits (take_more xs i 0 h) ∙ all_push (take i xs) (get_or xs i 0) d p

pub positional_more : (xs : List ℕ) (i : ℕ) → i < length xs → positional (take (i + 1) xs) ≡ positional (take i xs) * 10 + (get_or xs i 0 - 48)
positional_more xs i h = ap positional (take_more xs i 0 h) ∙ fold_push (λ n b. n * 10 + (b - 48)) 0 (take i xs) (get_or xs i 0)

and_false : (b : Bool) → (b && false) ≡ false
and_false true = refl
and_false false = refl

-- one byte that is no digit spoils the row
pub no_digit : (xs : List ℕ) (i : ℕ) → i < length xs → digit (get_or xs i 0) ≡ false → all_digits xs ≡ false
no_digit [] i h d = absurd (omega arith)
no_digit (x ∷ xs) zero h d = ap (λ t. t && all_digits xs) d
no_digit (x ∷ xs) (suc i) h d = ap (λ t. digit x && t) (no_digit xs i (omega arith) d) ∙ and_false (digit x)

-- what `decimal` answers at a byte that is no digit, and at the end of a row of digits
pub spoiled : (xs : List ℕ) (i : ℕ) → i < length xs → digit (get_or xs i 0) ≡ false → Err NoDigits ≡ decimal_value xs
spoiled xs i h d = sym (ap (λ t. cond (ltb 0 (length xs) && t) (cond (ltb (positional xs) (2 ^ 64)) (Ok (positional xs)) (Err PastLimit)) (Err NoDigits)) (no_digit xs i h d) ∙ ap (λ t. cond t (cond (ltb (positional xs) (2 ^ 64)) (Ok (positional xs)) (Err PastLimit)) (Err NoDigits)) (and_false (ltb 0 (length xs))))

row : (xs : List ℕ) → 0 < length xs → all_digits xs ≡ true → cond (ltb (positional xs) (2 ^ 64)) (Ok (positional xs)) (Err PastLimit) ≡ decimal_value xs
row xs h a = sym (ap (λ t. cond t (cond (ltb (positional xs) (2 ^ 64)) (Ok (positional xs)) (Err PastLimit)) (Err NoDigits)) (ap (λ t. t && all_digits xs) (lt-ltb 0 (length xs) h) ∙ a))

-- a value that fits is answered, one that does not is past the limit
pub read_row : (xs : List ℕ) (v : Option ℕ) → 0 < length xs → all_digits xs ≡ true → v ≡ fitting (positional xs) → ok_or v PastLimit ≡ decimal_value xs
read_row xs v h a e = ap (λ x. ok_or x PastLimit) e ∙ each (ltb (positional xs) (2 ^ 64)) (positional xs) ∙ row xs h a
  where
    each : (t : Bool) (n : ℕ) → ok_or (cond t (Some n) None) PastLimit ≡ cond t (Ok n) (Err PastLimit)
    each true n = refl
    each false n = refl
