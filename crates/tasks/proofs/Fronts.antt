-- The laws of the front of some bytes.
use Rattle.std.proofs.Common.{◌≡◌, ℕ, ◌≤◌, true, false, cond, List, [], ◌∷◌, length, drop, Ok, Err, refl, arith, length-drop, take_all}
use Rattle.std.proofs.lemmas.Bool.Decides.{nat_tests}
use Rattle.domains.specs.declared.refusal.Reason.{Reason}
use Rattle.domains.specs.declared.refusal.Reason.TheVariants.{UnknownCommand, OperandRange}
use Rattle.tasks.specs.Commands.{ranged}
use Rattle.tasks.specs.FrontLaws.{FrontLaws, Parsed, Taken, byte_at, beyond}
use Rattle.tasks.specs.Items.{Item, in_range, length_of, placed}
use Rattle.tasks.specs.Reading.{first, item_at, shape}
use Rattle.tasks.specs.declared.command.Command.{Command}

-- bytes with a known first byte and enough of them have the shape of a command
pub shaped : (bs : List ℕ) (b : ℕ) → byte_at bs 0 ≡ b → 1 ≤ b → b ≤ 9 → length_of b ≤ length bs → shape bs ≡ Ok tt
shaped bs b e l h n = rw e (grind (arith, nat_tests))

-- the bytes from the n-th on are what is left without the first n
beyond_is : (n : ℕ) (bs : List ℕ) → beyond n bs ≡ drop n bs
beyond_is n bs = take_all _ _ (simp length-drop (omega arith))

-- an unknown byte, or none
unknown : (bs : List ℕ) → (1 ≤ length bs → 1 ≤ byte_at bs 0 → byte_at bs 0 ≤ 9 → ⊥) → shape bs ≡ Err UnknownCommand
unknown [] h = refl
unknown (b ∷ bs) h = grind (arith, nat_tests)

-- the range does not depend on the place
ranged_anywhere : (p : ℕ) (i : Item) → ranged (placed p i) ≡ in_range i
ranged_anywhere p i = grind arith

-- so a parsed command has the range of its item
ranged_item : (p : ℕ) (bs : List ℕ) (c : Command) (rest : List ℕ) → Parsed p bs c rest → in_range (item_at bs) ≡ ranged c
ranged_item p bs c rest h = grind (arith, ranged_anywhere p (item_at bs))

-- what is first in bytes with the shape of a command hangs on the range alone
pub first_shaped : (bs : List ℕ) → shape bs ≡ Ok tt → first bs ≡ cond (in_range (item_at bs)) (Ok (item_at bs)) (Err OperandRange)
first_shaped bs h = grind arith

-- a parsed command in range is taken
pub within : (p : ℕ) (bs : List ℕ) (c : Command) (rest : List ℕ) → Parsed p bs c rest → ranged c ≡ true → Taken p bs c rest
within p bs c rest h e = grind (arith, ranged_item)

-- one out of range is refused
pub beside : (p : ℕ) (bs : List ℕ) (c : Command) (rest : List ℕ) → Parsed p bs c rest → ranged c ≡ false → first bs ≡ Err OperandRange
beside p bs c rest h e = grind (arith, ranged_item)

-- bytes with no shape of a command have no command first
pub refused : (bs : List ℕ) (r : Reason) → shape bs ≡ Err r → first bs ≡ Err r
refused bs r e = grind arith

pub front_laws : (p : ℕ) (bs : List ℕ) → FrontLaws p bs
front_laws p bs = record {
  set = λ w e h v. grind (arith, nat_tests, beyond_is);
  copy = λ e h. grind (arith, nat_tests, beyond_is);
  add = λ e h. grind (arith, nat_tests, beyond_is);
  subtract = λ e h. grind (arith, nat_tests, beyond_is);
  multiply = λ e h. grind (arith, nat_tests, beyond_is);
  invert = λ e h. grind (arith, nat_tests, beyond_is);
  test = λ z e h v. grind (arith, nat_tests, beyond_is);
  go = λ n e h v. grind (arith, nat_tests, beyond_is);
  end = λ e h. grind (arith, nat_tests, beyond_is);
  unknown = unknown bs;
  refused = refused bs;
  within = within p bs;
  beside = beside p bs;
}
