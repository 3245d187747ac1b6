-- The number that a text of decimal digits says. Assumes nothing.
use Rattle.std.specs.Prelude.{ℕ, ◌+◌, ◌-◌, ◌*◌, ◌^◌, Bool, true, cond, ◌&&◌, List, [], ◌∷◌, length, Some, None, Ok, Err, fold, Option, Result, nat_le, nat_lt}
use Rattle.wording.specs.declared.number.NumberFault.{NumberFault}
use Rattle.wording.specs.declared.number.NumberFault.TheVariants.{NoDigits, PastLimit}

-- the bytes of the digits 0 to 9
abbrev pub digit : ℕ → Bool
digit b = nat_le 48 b && nat_le b 57

abbrev pub all_digits : List ℕ → Bool
all_digits [] = true
all_digits (b ∷ bs) = digit b && all_digits bs

-- the value of a row of digits, the highest first
abbrev pub positional : List ℕ → ℕ
positional bs = fold (λ n b. n * 10 + (b - 48)) 0 bs

-- a number of 64 bits, or none
abbrev pub fitting : ℕ → Option ℕ
fitting n = cond (nat_lt n (2 ^ 64)) (Some n) None

-- the value of a text: no digits, or other characters, are no number, and what does not fit 64 bits is past the limit
abbrev pub decimal_value : List ℕ → Result ℕ NumberFault
decimal_value bs = cond (nat_lt 0 (length bs) && all_digits bs) (cond (nat_lt (positional bs) (2 ^ 64)) (Ok (positional bs)) (Err PastLimit)) (Err NoDigits)
