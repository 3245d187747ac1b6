-- The commands of a program that was read are allowed.
use Rattle.std.specs.Prelude.{◌≡◌, ℕ, zero, suc, ◌+◌, ◌-◌, true, List, [], ◌∷◌, ◌++◌, replicate, None, Option, refl}
use Rattle.std.proofs.Math.Logic.{∥∥₁_elim}
use Rattle.std.proofs.Math.Bridge.{le_prop}
use Rattle.std.proofs.Common.{arith}
use Rattle.std.proofs.lemmas.Bool.Decides.{nat_tests}
use Rattle.tasks.specs.CheckLaws.{entry}
use Rattle.tasks.specs.Commands.{Allowed}
use Rattle.tasks.specs.Items.{Item, in_range, placed, size}
use Rattle.tasks.specs.Programs.{IsChecked}
use Rattle.tasks.specs.Reading.{tabled}
use Rattle.tasks.specs.declared.command.Command.{Command}
use Rattle.tasks.specs.declared.command.Command.TheVariants.{Set, Copy, Add, Subtract, Multiply, Invert, Test, Go, End}
use Rattle.tasks.specs.Ranges.{Ranged, program_ranged}

-- that a command is allowed has one proof at most
allowed_prop : (c : Command) → IsProp (Allowed c)
allowed_prop (Set d n w) = le_prop
allowed_prop (Copy d a n) = λ x y i. (le_prop x.0 y.0 i, le_prop x.1 y.1 i)
allowed_prop (Add d a b n) = λ x y i. (le_prop x.0 y.0 i, le_prop x.1 y.1 i, le_prop x.2 y.2 i)
allowed_prop (Subtract d a b n) = λ x y i. (le_prop x.0 y.0 i, le_prop x.1 y.1 i, le_prop x.2 y.2 i)
allowed_prop (Multiply d a b n) = λ x y i. (le_prop x.0 y.0 i, le_prop x.1 y.1 i, le_prop x.2 y.2 i)
allowed_prop (Invert d a n) = λ x y i. (le_prop x.0 y.0 i, le_prop x.1 y.1 i)
allowed_prop (Test a z o) = le_prop
allowed_prop (Go n) = λ x y. refl
allowed_prop (End c) = le_prop

-- the command of an item in range is allowed
allowed_placed : (p : ℕ) (i : Item) → in_range i ≡ true → Allowed (placed p i)
allowed_placed p i h = grind (arith, nat_tests)

allowed_filler : (n : ℕ) (cs : List (Option Command)) → ((k : ℕ) → Allowed (entry cs k)) → (k : ℕ) → Allowed (entry (replicate n None ++ cs) k)
allowed_filler zero cs h k = h k
allowed_filler (suc n) cs h zero = omega arith
allowed_filler (suc n) cs h (suc k) = allowed_filler n cs h k

allowed_table : (p : ℕ) (is : List Item) → Ranged is → (k : ℕ) → Allowed (entry (tabled p is) k)
allowed_table p [] r k = omega arith
allowed_table p (i ∷ is) r zero = allowed_placed p i r.0
allowed_table p (i ∷ is) r (suc k) = allowed_filler (size i - 1) (tabled (p + size i) is) (allowed_table (p + size i) is r.1) k

-- so are all commands of a checked program
pub allowed_checked : (cs : List (Option Command)) → ∥ IsChecked cs ∥₁ → (k : ℕ) → Allowed (entry cs k)
allowed_checked cs h k =
    ∥∥₁_elim h (allowed_prop (entry cs k)) (λ x. rw x.program.table (allowed_table 0 x.items (program_ranged x.bytes x.items cs x.program) k))
