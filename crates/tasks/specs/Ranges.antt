-- What is read is in range.
use Rattle.std.specs.Prelude.{◌≡◌, ℕ, zero, suc, ◌+◌, true, List, [], ◌∷◌, length, drop, Ok, Option}
use Rattle.std.proofs.Common.{sym, subst, arith}
use Rattle.std.proofs.lemmas.Bool.Decides.{nat_tests}
use Rattle.tasks.specs.Items.{Item, in_range, size}
use Rattle.tasks.specs.Programs.{Program}
use Rattle.tasks.specs.Reading.{first, walked}
use Rattle.tasks.specs.declared.command.Command.{Command}
use Rattle.tasks.specs.Walks.{walked_tells}

-- all items are in range
abbrev pub Ranged : List Item → Type 0
Ranged [] = Unit {0}
Ranged (i ∷ is) = (in_range i ≡ true) × Ranged is

-- an item that is first is in range
first_ranged : (ms : List ℕ) (i : Item) → first ms ≡ Ok i → in_range i ≡ true
first_ranged ms i e = grind (arith, nat_tests)

walked_ranged : (n p : ℕ) (ms : List ℕ) (is : List Item) → walked n p ms ≡ Ok is → Ranged is
walked_ranged zero p [] is e = grind arith
walked_ranged zero p (b ∷ bs) is e = grind arith
walked_ranged (suc n) p [] is e = grind arith
walked_ranged (suc n) p (b ∷ bs) is e =
    let t = walked_tells n p b bs is e in subst Ranged (sym t.both) (first_ranged (b ∷ bs) t.item t.front, walked_ranged n (p + size t.item) (drop (size t.item) (b ∷ bs)) t.others t.rest)

pub program_ranged : (bs : List ℕ) (is : List Item) (cs : List (Option Command)) → Program bs is cs → Ranged is
program_ranged bs is cs h = grind (arith, nat_tests, walked_ranged (length bs) 0 bs is, h.reads)
