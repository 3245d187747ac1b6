-- Eight bytes as a word, and a word as eight bytes. Assumes nothing.
use Rattle.std.proofs.Common.{◌≡◌, ℕ, zero, suc, ◌+◌, ◌*◌, ◌/◌, ◌%◌, ◌^◌, ◌<◌, List, [], ◌∷◌, length, get_or, arith}
use native.Mathlib.Nat as Nat
use Rattle.byte_polys.specs.ByteField.{number}
use Rattle.byte_polys.specs.Steps.{Below}

-- the number of eight bytes
pub number_eight : (cs : List ℕ) → length cs ≡ 8
    → number cs ≡ get_or cs 0 0 + get_or cs 1 0 * 256 + get_or cs 2 0 * 65536 + get_or cs 3 0 * 16777216 + get_or cs 4 0 * 4294967296 + get_or cs 5 0 * 1099511627776 + get_or cs 6 0 * 281474976710656 + get_or cs 7 0 * 72057594037927936
unfolding number
number_eight [] e = absurd (omega arith)
number_eight (a ∷ []) e = absurd (omega arith)
number_eight (a ∷ b ∷ []) e = absurd (omega arith)
number_eight (a ∷ b ∷ c ∷ []) e = absurd (omega arith)
number_eight (a ∷ b ∷ c ∷ d ∷ []) e = absurd (omega arith)
number_eight (a ∷ b ∷ c ∷ d ∷ x ∷ []) e = absurd (omega arith)
number_eight (a ∷ b ∷ c ∷ d ∷ x ∷ y ∷ []) e = absurd (omega arith)
number_eight (a ∷ b ∷ c ∷ d ∷ x ∷ y ∷ z ∷ []) e = absurd (omega arith)
number_eight (a ∷ b ∷ c ∷ d ∷ x ∷ y ∷ z ∷ w ∷ []) e = omega arith
number_eight (a ∷ b ∷ c ∷ d ∷ x ∷ y ∷ z ∷ w ∷ v ∷ vs) e = absurd (omega arith)

-- the bytes of a word, the lowest first
unfoldable pub bytes_of : ℕ → List ℕ
bytes_of w = (w % 256) ∷ (w / 256 % 256) ∷ (w / 65536 % 256) ∷ (w / 16777216 % 256) ∷ (w / 4294967296 % 256) ∷ (w / 1099511627776 % 256) ∷ (w / 281474976710656 % 256) ∷ (w / 72057594037927936 % 256) ∷ []

-- each is a byte
pub bytes_below : (w : ℕ) → Below 256 (bytes_of w)
unfolding bytes_of
bytes_below w zero = Nat.mod-lt _ (omega arith)
bytes_below w (suc zero) = Nat.mod-lt _ (omega arith)
bytes_below w (suc (suc zero)) = Nat.mod-lt _ (omega arith)
bytes_below w (suc (suc (suc zero))) = Nat.mod-lt _ (omega arith)
bytes_below w (suc (suc (suc (suc zero)))) = Nat.mod-lt _ (omega arith)
bytes_below w (suc (suc (suc (suc (suc zero))))) = Nat.mod-lt _ (omega arith)
bytes_below w (suc (suc (suc (suc (suc (suc zero)))))) = Nat.mod-lt _ (omega arith)
bytes_below w (suc (suc (suc (suc (suc (suc (suc zero))))))) = Nat.mod-lt _ (omega arith)
bytes_below w (suc (suc (suc (suc (suc (suc (suc (suc i)))))))) = omega arith

-- and their number is the word
pub number_bytes : (w : ℕ) → w < 2 ^ 64 → number (bytes_of w) ≡ w
unfolding number bytes_of
number_bytes w h = omega arith
