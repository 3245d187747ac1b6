-- The items of a byte program: commands without their next places, and the bytes that they are written as. Assumes nothing.
use Rattle.std.specs.Prelude.{ℕ, zero, suc, ◌+◌, ◌-◌, ◌/◌, ◌%◌, Bool, List, [], ◌∷◌, slice_index}
use Rattle.tasks.specs.Commands.{ranged}
use Rattle.tasks.specs.declared.command.Command.{Command}
use Rattle.tasks.specs.declared.command.Command.TheVariants.{Set, Copy, Add, Subtract, Multiply, Invert, Test, Go, End}

pub data Item : Type 0 where
  set_item : ℕ → ℕ → Item
  copy_item : ℕ → ℕ → Item
  add_item : ℕ → ℕ → ℕ → Item
  subtract_item : ℕ → ℕ → ℕ → Item
  multiply_item : ℕ → ℕ → ℕ → Item
  invert_item : ℕ → ℕ → Item
  test_item : ℕ → ℕ → Item
  go_item : ℕ → Item
  end_item : ℕ → Item

-- the lengths of the commands 1 to 9, with the command byte
abbrev pub lengths : List ℕ
lengths = 10 ∷ 3 ∷ 4 ∷ 4 ∷ 4 ∷ 3 ∷ 4 ∷ 3 ∷ 2 ∷ []

-- the command byte of an item
abbrev pub opcode : Item → ℕ
opcode (set_item d w) = 1
opcode (copy_item d a) = 2
opcode (add_item d a b) = 3
opcode (subtract_item d a b) = 4
opcode (multiply_item d a b) = 5
opcode (invert_item d a) = 6
opcode (test_item a z) = 7
opcode (go_item n) = 8
opcode (end_item c) = 9

-- the length of a command byte's command, from the table
abbrev pub length_of : ℕ → ℕ
length_of b = slice_index lengths (b - 1)

-- the length of an item as bytes
abbrev pub size : Item → ℕ
size i = length_of (opcode i)

-- the n lowest bytes of a number, the lowest first
abbrev pub little_endian : ℕ → ℕ → List ℕ
little_endian zero w = []
little_endian (suc n) w = (w % 256) ∷ little_endian n (w / 256)

-- the operands of an item as bytes
abbrev pub operands : Item → List ℕ
operands (set_item d w) = d ∷ little_endian 8 w
operands (copy_item d a) = d ∷ a ∷ []
operands (add_item d a b) = d ∷ a ∷ b ∷ []
operands (subtract_item d a b) = d ∷ a ∷ b ∷ []
operands (multiply_item d a b) = d ∷ a ∷ b ∷ []
operands (invert_item d a) = d ∷ a ∷ []
operands (test_item a z) = a ∷ little_endian 2 z
operands (go_item n) = little_endian 2 n
operands (end_item c) = c ∷ []

-- an item as bytes
abbrev pub encoded : Item → List ℕ
encoded i = opcode i ∷ operands i

-- the command of an item at a place: where no next place is named, it is that of the following item
abbrev pub placed : ℕ → Item → Command
placed p (set_item d w) = Set d (p + 10) w
placed p (copy_item d a) = Copy d a (p + 3)
placed p (add_item d a b) = Add d a b (p + 4)
placed p (subtract_item d a b) = Subtract d a b (p + 4)
placed p (multiply_item d a b) = Multiply d a b (p + 4)
placed p (invert_item d a) = Invert d a (p + 3)
placed p (test_item a z) = Test a z (p + 4)
placed p (go_item n) = Go n
placed p (end_item c) = End c

-- the operands of an item are in range
abbrev pub in_range : Item → Bool
in_range i = ranged (placed 0 i)
