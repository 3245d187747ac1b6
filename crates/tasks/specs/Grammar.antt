-- The grammar of byte programs, in the words of the subject; it says of bytes what the executable definition answers.
-- Assumes nothing.
use Rattle.std.specs.Prelude.{◌≡◌, ℕ, ◌+◌, ◌^◌, ◌<◌, ◌≤◌, true, ◌⊎◌, List, [], ◌∷◌, ◌++◌, length, Ok, slice_index}
use Rattle.tasks.specs.Items.{Item, set_item, copy_item, add_item, subtract_item, multiply_item, invert_item, test_item, go_item, end_item, encoded, size}
use Rattle.tasks.specs.Reading.{checking, closing, reading}

-- the elements are bytes
abbrev pub Bytes : List ℕ → Type 0
Bytes bs = (i : ℕ) → slice_index bs i < 256

-- an item keeps the rules: cells below 64, words below 2^64, places below 65,536, codes of END of at most 239
abbrev pub Proper : Item → Type 0
Proper (set_item d w) = (d < 64) × (w < 2 ^ 64)
Proper (copy_item d a) = (d < 64) × (a < 64)
Proper (add_item d a b) = (d < 64) × (a < 64) × (b < 64)
Proper (subtract_item d a b) = (d < 64) × (a < 64) × (b < 64)
Proper (multiply_item d a b) = (d < 64) × (a < 64) × (b < 64)
Proper (invert_item d a) = (d < 64) × (a < 64)
Proper (test_item a z) = (a < 64) × (z < 65536)
Proper (go_item n) = n < 65536
Proper (end_item c) = c ≤ 239

abbrev pub AllProper : List Item → Type 0
AllProper [] = Unit {0}
AllProper (i ∷ is) = Proper i × AllProper is

-- the encodings of some items, joined
abbrev pub joined : List Item → List ℕ
joined [] = []
joined (i ∷ is) = encoded i ++ joined is

-- an item stands at an offset: as many bytes on as the items before it have
abbrev pub At : List Item → ℕ → Item → Type 0
At [] p i = ⊥
At (j ∷ is) p i = ((p ≡ 0) × (j ≡ i)) ⊎ ((q : ℕ) × (p ≡ size j + q) × At is q i)

-- TEST jumps to its zero place, and GO to its place
abbrev pub JumpsTo : Item → ℕ → Type 0
JumpsTo (test_item a z) t = t ≡ z
JumpsTo (go_item n) t = t ≡ n
JumpsTo i t = ⊥

-- there is a last item, GO or END
abbrev pub Closed : List Item → Type 0
Closed [] = ⊥
Closed (i ∷ []) = closing i ≡ true
Closed (i ∷ (j ∷ js)) = Closed (j ∷ js)

-- the bytes are a program with the items
pub record Grammatical (bs : List ℕ) (is : List Item) : Type 0 where
  pub some : 1 ≤ length bs
  pub few : length bs ≤ 1024
  pub spelled : bs ≡ joined is
  pub proper : AllProper is
  pub landing : (p t : ℕ) (i : Item) → At is p i → JumpsTo i t → (j : Item) × At is t j
  pub ends : Closed is

-- reading gives the items, and checking them finds nothing wrong
pub record Accepted (bs : List ℕ) (is : List Item) : Type 0 where
  pub reads : reading bs ≡ Ok is
  pub checks : checking is ≡ Ok tt
