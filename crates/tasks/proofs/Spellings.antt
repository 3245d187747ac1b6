-- Items and the bytes that they are written as.
use Rattle.std.proofs.Common.{◌≡◌, ℕ, zero, suc, ◌+◌, ◌-◌, ◌*◌, ◌/◌, ◌%◌, ◌≤◌, true, List, [], ◌∷◌, ◌++◌, length, get_or, drop, Ok, sym, refl, ap, ◌∙◌, subst, add-zero, arith, length-drop, get_or-drop, drop-cons}
use Rattle.std.proofs.lemmas.Bool.Decides.{nat_tests}
use Rattle.tasks.specs.FrontLaws.{byte_at}
use Rattle.tasks.specs.Grammar.{AllProper, Bytes, Proper, joined}
use Rattle.tasks.specs.Items.{Item, set_item, copy_item, add_item, subtract_item, multiply_item, invert_item, test_item, go_item, end_item, encoded, in_range, little_endian, size}
use Rattle.tasks.specs.Reading.{first, item_at, number, shape, walked}
use Rattle.tasks.specs.Tables.{size_some}
use Rattle.tasks.specs.Walks.{walked_none, walked_fuel, walked_tells}

-- n elements from the i-th on
abbrev reads : ℕ → ℕ → List ℕ → List ℕ
reads zero i ms = []
reads (suc n) i ms = get_or ms i 0 ∷ reads n (suc i) ms

drop_reads : (n i : ℕ) (ms : List ℕ) → i + n ≤ length ms → drop i ms ≡ reads n i ms ++ drop (i + n) ms
drop_reads zero i ms h = rw add-zero refl
drop_reads (suc n) i ms h = grind (arith, drop-cons ms i 0, drop_reads n (suc i) ms)

-- bytes with a known first byte
cut : (ms : List ℕ) (k n : ℕ) → byte_at ms 0 ≡ k → suc n ≤ length ms → ms ≡ (k ∷ reads n 1 ms) ++ drop (suc n) ms
cut ms k n e h =
    let z : 0 + suc n ≡ suc n = omega arith in
    let d : 0 + suc n ≤ length ms = omega arith in
    rw (z, e) at (drop_reads (suc n) 0 ms d)

-- writing the number of some bytes gives them again
le_number : (n i : ℕ) (ms : List ℕ) → Bytes ms → little_endian n (number n ms i) ≡ reads n i ms
le_number zero i ms b = refl
le_number (suc n) i ms b = grind (arith, b i, le_number n (suc i) ms b)

number_shift : (n x : ℕ) (xs : List ℕ) (i : ℕ) → number n (x ∷ xs) (suc i) ≡ number n xs i
number_shift zero x xs i = refl
number_shift (suc n) x xs i = ap (λ (v : ℕ). get_or xs i 0 + 256 * v) (number_shift n x xs (suc i))

-- a number has at most n bytes
abbrev Within : ℕ → ℕ → Type 0
Within zero w = 0 ≡ w
Within (suc n) w = Within n (w / 256)

number_le : (n w : ℕ) (rest : List ℕ) → Within n w → number n (little_endian n w ++ rest) 0 ≡ w
number_le zero w rest h = h
number_le (suc n) w rest h = grind (arith, number_shift n (w % 256) (little_endian n (w / 256) ++ rest) 0, number_le n (w / 256) rest h)

-- an item read in range keeps the rules, and is written as the bytes that it was read from
pub record Spelled (ms : List ℕ) (i : Item) : Type 0 where
  pub written : ms ≡ encoded i ++ drop (size i) ms
  pub proper : Proper i
  pub whole : size i ≤ length ms

spelled : (ms : List ℕ) → Bytes ms → in_range (item_at ms) ≡ true → shape ms ≡ Ok tt → Spelled ms (item_at ms)
spelled ms b v s = record {
  written = grind (arith, nat_tests, cut ms 1 9, cut ms 2 2, cut ms 3 3, cut ms 4 3, cut ms 5 3, cut ms 6 2, cut ms 7 3, cut ms 8 2, cut ms 9 1, le_number 8 2 ms b, le_number 2 2 ms b, le_number 2 1 ms b);
  proper = grind (arith, nat_tests, b 1, b 2, b 3, b 4, b 5, b 6, b 7, b 8, b 9);
  whole = grind (arith, nat_tests);
}

first_spelled : (ms : List ℕ) → Bytes ms → (i : Item) → first ms ≡ Ok i → Spelled ms i
first_spelled ms b i e =
    let j : item_at ms ≡ i = grind (arith, nat_tests) in
    subst (Spelled ms) j (spelled ms b (grind (arith, nat_tests)) (grind (arith, nat_tests)))

-- what is read from bytes is written as them
abbrev pub Written : List ℕ → List Item → Type 0
Written ms is = (ms ≡ joined is) × AllProper is

pub walked_written : (n p : ℕ) (ms : List ℕ) (is : List Item) → length ms ≤ n → Bytes ms → walked n p ms ≡ Ok is → Written ms is
walked_written zero p [] is l b e = grind arith
walked_written zero p (x ∷ ms) is l b e = absurd (omega arith)
walked_written (suc n) p [] is l b e = grind arith
walked_written (suc n) p (x ∷ ms) is l b e =
    let t = walked_tells n p x ms is e in
    let i = t.item in
    let s = first_spelled (x ∷ ms) b i t.front in
    let k = size_some i in
    let w = walked_written n (p + size i) (drop (size i) (x ∷ ms)) t.others (let d = length-drop (size i) (x ∷ ms) in omega arith) (λ m. rw get_or-drop (b (size i + m))) t.rest in
    subst (Written (x ∷ ms)) (sym t.both) (s.written ∙ ap (λ (r : List ℕ). encoded i ++ r) w.0, (s.proper, w.1))

-- an item that keeps the rules is in range, and is read from what it is written as
range_proper : (i : Item) → Proper i → in_range i ≡ true
range_proper i h = grind (arith, nat_tests)

item_encoded : (i : Item) (rest : List ℕ) → Proper i → item_at (encoded i ++ rest) ≡ i
item_encoded (set_item d w) rest h =
    let x = h.1 in
    let n : Within 8 w = omega arith in
    ap (set_item d) (number_shift 8 1 (d ∷ (little_endian 8 w ++ rest)) 1 ∙ number_shift 8 d (little_endian 8 w ++ rest) 0 ∙ number_le 8 w rest n)
item_encoded (copy_item d a) rest h = refl
item_encoded (add_item d a b) rest h = refl
item_encoded (subtract_item d a b) rest h = refl
item_encoded (multiply_item d a b) rest h = refl
item_encoded (invert_item d a) rest h = refl
item_encoded (test_item a z) rest h =
    let x = h.1 in
    let n : Within 2 z = omega arith in
    ap (test_item a) (number_shift 2 7 (a ∷ (little_endian 2 z ++ rest)) 1 ∙ number_shift 2 a (little_endian 2 z ++ rest) 0 ∙ number_le 2 z rest n)
item_encoded (go_item m) rest h =
    let n : Within 2 m = omega arith in
    ap go_item (number_shift 2 8 (little_endian 2 m ++ rest) 0 ∙ number_le 2 m rest n)
item_encoded (end_item c) rest h = refl

length_encoded : (i : Item) (rest : List ℕ) → length (encoded i ++ rest) ≡ size i + length rest
length_encoded i rest = grind arith

shape_encoded : (i : Item) (rest : List ℕ) → shape (encoded i ++ rest) ≡ Ok tt
shape_encoded i rest = grind (arith, nat_tests)

drop_encoded : (i : Item) (rest : List ℕ) → drop (size i) (encoded i ++ rest) ≡ rest
drop_encoded i rest = grind arith

first_encoded : (i : Item) (rest : List ℕ) → Proper i → first (encoded i ++ rest) ≡ Ok i
first_encoded i rest h = grind (arith, shape_encoded i rest, item_encoded i rest h, range_proper i h)

-- what is written is read
pub walked_joined : (n p : ℕ) (is : List Item) → length (joined is) ≤ n → AllProper is → walked n p (joined is) ≡ Ok is
walked_joined n p [] l h = walked_none n p
walked_joined n p (i ∷ is) l h =
    let k = size_some i in
    let m = length_encoded i (joined is) in
    grind (arith, walked_fuel n p (encoded i ++ joined is), first_encoded i (joined is) h.0, drop_encoded i (joined is), walked_joined (n - 1) (p + size i) is)
