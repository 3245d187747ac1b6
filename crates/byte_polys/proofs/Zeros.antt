-- Lists of coefficients that are 0, throughout or from some place on. Assumes nothing.
use Rattle.std.proofs.Common.{◌≡◌, ℕ, ◌<◌, ◌≤◌, List, length, get_or, replicate, arith}
use native.Mathlib.Decide.{dec_lt}
use Rattle.std.proofs.lemmas.List.{get_or_past, get_or-replicate, length-replicate}
use Rattle.byte_polys.specs.Steps.{ZeroFrom}

-- past its end a list has no coefficients
pub past_end : (xs : List ℕ) (n : ℕ) → length xs ≡ n → ZeroFrom n xs
past_end xs n e i h = get_or_past xs i 0 (omega arith)

-- so what is 0 from x^k up to the end is 0 from x^k on
pub zero_on : (xs : List ℕ) (n k : ℕ) → length xs ≡ n → ((j : ℕ) → k ≤ j → j < n → get_or xs j 0 ≡ 0) → ZeroFrom k xs
zero_on xs n k e h i l = go (dec_lt i n)
  where
    go : Dec (i < n) → get_or xs i 0 ≡ 0
    go (yes u) = h i l u
    go (no u) = past_end xs n e i (omega arith)

-- nothing but zeros
pub record Zeros (xs : List ℕ) : Type 0 where
  pub each : (i : ℕ) → get_or xs i 0 ≡ 0

-- as an array that begins with zeros is
pub zeros : (n : ℕ) → Zeros (replicate {A = ℕ} n 0)
zeros n = record { each = λ i. go i (dec_lt i n) }
  where
    go : (i : ℕ) → Dec (i < n) → get_or (replicate {A = ℕ} n 0) i 0 ≡ 0
    go i (yes l) = get_or-replicate n i 0 0 l
    go i (no l) = past_end (replicate n 0) n (length-replicate n 0) i (omega arith)
