-- Tables of commands: an item more, and a command entered.
use Rattle.std.specs.Prelude.{zero, suc, cond, nat_lt, ◌≡◌, ℕ, ◌+◌, ◌-◌, ◌≤◌, List, [], ◌∷◌, ◌++◌, length, take, replicate, Some, None, Option, refl}
use Rattle.std.proofs.Common.{sym, ◌∙◌, ap, append_assoc, append-nil, add-zero, zero-add, arith, length-append, take_all}
use Rattle.std.proofs.lemmas.List.{length-replicate}
use Rattle.std.proofs.lemmas.Bool.Decides.{nat_tests}
use Rattle.tasks.specs.CheckLaws.{command_at}
use Rattle.tasks.specs.Items.{Item, placed, size}
use Rattle.tasks.specs.Reading.{tabled}
use Rattle.tasks.specs.declared.command.Command.{Command}

-- an item has at least one byte
pub size_some : (i : Item) → 1 ≤ size i
size_some i = grind arith

-- what stands behind some bytes with no command
pub filled : (n k : ℕ) (cs : List (Option Command)) → command_at (replicate n None ++ cs) k ≡ cond (nat_lt k n) None (command_at cs (k - n))
filled zero k cs = grind (arith, nat_tests)
filled (suc n) zero cs = grind (arith, nat_tests)
filled (suc n) (suc k) cs = grind (arith, nat_tests, filled n k cs)

-- the part of a table that an item has
abbrev pub part : ℕ → Item → List (Option Command)
part p i = Some (placed p i) ∷ replicate (size i - 1) None

pub length_part : (p : ℕ) (i : Item) → length (part p i) ≡ size i
length_part p i = grind (arith, size_some i, length-replicate {A = Option Command})

-- a table with one item more at its end
pub tabled_snoc : (p : ℕ) (is : List Item) (i : Item) → tabled p (is ++ i ∷ []) ≡ tabled p is ++ part (p + length (tabled p is)) i
tabled_snoc p [] i = rw (append-nil, add-zero) refl
tabled_snoc p (j ∷ is) i =
    grind (arith, size_some j, length-replicate {A = Option Command} (size j - 1) None, length-append (replicate (size j - 1) None) (tabled (p + size j) is), append_assoc (part p j) (tabled (p + size j) is), tabled_snoc (p + size j) is i)

pub tabled_more : (is : List Item) (i : Item) → tabled 0 (is ++ i ∷ []) ≡ tabled 0 is ++ part (length (tabled 0 is)) i
tabled_more is i = tabled_snoc 0 is i ∙ ap (λ (k : ℕ). tabled 0 is ++ part k i) (zero-add (length (tabled 0 is)))

-- pushing an entry and resizing the table adds the entry and its filler
pub padded : {A : Type 0} (xs ys zs : List A) (c : A) (k n m e : ℕ) (f : A) → k ≡ length xs → 1 ≤ n → ys ≡ xs ++ c ∷ [] → m ≡ k + 1 → zs ≡ take e ys ++ replicate (e - m) f → e ≡ k + n → zs ≡ xs ++ (c ∷ replicate (n - 1) f)
padded xs ys zs c k n m e f o h p q r s =
    let l : length ys ≡ k + 1 = ap length p ∙ length-append xs (c ∷ []) ∙ ap (λ (j : ℕ). j + 1) (sym o) in
    let t : take e ys ≡ ys = take_all e ys (omega arith) in
    let d : e - m ≡ n - 1 = omega arith in
    r ∙ rw (t, d, p) (append_assoc xs (c ∷ []) (replicate (n - 1) f))
