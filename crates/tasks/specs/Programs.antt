-- What a table of commands has to do with the bytes of a program. Assumes nothing.
use Rattle.std.specs.Prelude.{◌≡◌, ℕ, List, Option, Ok, Result}
use Rattle.domains.specs.declared.refusal.Reason.{Reason}
use Rattle.tasks.specs.Items.{Item}
use Rattle.tasks.specs.Reading.{reading, checking, tabled}
use Rattle.tasks.specs.declared.command.Command.{Command}

-- the bytes are read as the items, whose table it is
pub record Program (bs : List ℕ) (is : List Item) (cs : List (Option Command)) : Type 0 where
  pub reads : reading bs ≡ Ok is
  pub table : cs ≡ tabled 0 is

-- it is the table of some bytes that are read
pub record IsRead (cs : List (Option Command)) : Type 0 where
  pub bytes : List ℕ
  pub items : List Item
  pub program : Program bytes items cs

-- it is the table of some bytes that are read and checked
pub record IsChecked (cs : List (Option Command)) : Type 0 where
  pub bytes : List ℕ
  pub items : List Item
  pub program : Program bytes items cs
  pub checks : checking items ≡ Ok tt

-- what the checking of the items answers, whose table it is
pub record Verdict (cs : List (Option Command)) (v : Result (Unit {0}) (Reason × ℕ)) : Type 0 where
  pub given : (bs : List ℕ) (is : List Item) → Program bs is cs → checking is ≡ v
