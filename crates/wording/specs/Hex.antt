-- Bytes written as hexadecimal digits. Assumes nothing.
use Rattle.std.specs.Prelude.{ℕ, ◌+◌, ◌-◌, ◌*◌, cond, ◌&&◌, List, [], ◌∷◌, Some, None, Option, nat_le}

-- the value of a digit: 0 to 9, a to f, A to F
abbrev pub digit_value : ℕ → Option ℕ
digit_value b = cond (nat_le 48 b && nat_le b 57) (Some (b - 48)) (cond (nat_le 97 b && nat_le b 102) (Some (b - 97 + 10)) (cond (nat_le 65 b && nat_le b 70) (Some (b - 65 + 10)) None))

-- the number of two digits; 0 where one is none
abbrev pub two_digits : Option ℕ → Option ℕ → ℕ
two_digits (Some h) (Some l) = 16 * h + l
two_digits (Some h) None = 0
two_digits None (Some l) = 0
two_digits None None = 0

-- the bytes of pairs of digits; a single digit at the end is left out
abbrev pub pair_bytes : List ℕ → List ℕ
pair_bytes [] = []
pair_bytes (h ∷ []) = []
pair_bytes (h ∷ l ∷ bs) = two_digits (digit_value h) (digit_value l) ∷ pair_bytes bs
