-- Which operands a command may have. Assumes nothing.
use Rattle.std.specs.Prelude.{◌<◌, ◌≤◌, Bool, true, ◌&&◌, nat_le, nat_lt}
use Rattle.tasks.specs.declared.command.Command.{Command}
use Rattle.tasks.specs.declared.command.Command.TheVariants.{Set, Copy, Add, Subtract, Multiply, Invert, Test, Go, End}

-- the cells of a command are below 64, and the code of END is at most 240
abbrev pub Allowed : Command → Type 0
Allowed (Set d n w) = d < 64
Allowed (Copy d a n) = (d < 64) × (a < 64)
Allowed (Add d a b n) = (d < 64) × (a < 64) × (b < 64)
Allowed (Subtract d a b n) = (d < 64) × (a < 64) × (b < 64)
Allowed (Multiply d a b n) = (d < 64) × (a < 64) × (b < 64)
Allowed (Invert d a n) = (d < 64) × (a < 64)
Allowed (Test a z o) = a < 64
Allowed (Go n) = Unit {0}
Allowed (End c) = c ≤ 240

-- what a written command may have: cells below 64, and a code of END of at most 239
abbrev pub ranged : Command → Bool
ranged (Set d n w) = nat_lt d 64
ranged (Copy d a n) = nat_lt d 64 && nat_lt a 64
ranged (Add d a b n) = (nat_lt d 64 && nat_lt a 64) && nat_lt b 64
ranged (Subtract d a b n) = (nat_lt d 64 && nat_lt a 64) && nat_lt b 64
ranged (Multiply d a b n) = (nat_lt d 64 && nat_lt a 64) && nat_lt b 64
ranged (Invert d a n) = nat_lt d 64 && nat_lt a 64
ranged (Test a z o) = nat_lt a 64
ranged (Go n) = true
ranged (End c) = nat_le c 239
