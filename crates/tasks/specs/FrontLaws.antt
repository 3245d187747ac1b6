-- What the command byte and the length tell of the front of some bytes. Assumes nothing.
use Rattle.std.specs.Prelude.{◌≡◌, ℕ, ◌+◌, ◌-◌, ◌≤◌, true, false, List, [], ◌∷◌, length, take, drop, Ok, Err, slice_index}
use Rattle.domains.specs.declared.refusal.Reason.{Reason}
use Rattle.domains.specs.declared.refusal.Reason.TheVariants.{UnknownCommand, OperandRange}
use Rattle.tasks.specs.Commands.{ranged}
use Rattle.tasks.specs.Items.{placed, size}
use Rattle.tasks.specs.Reading.{first, item_at, number, shape}
use Rattle.tasks.specs.declared.command.Command.{Command}
use Rattle.tasks.specs.declared.command.Command.TheVariants.{Set, Copy, Add, Subtract, Multiply, Invert, Test, Go, End}

-- at a place the bytes begin with a command, in range or not, and the rest follows
pub record Parsed (p : ℕ) (bs : List ℕ) (c : Command) (rest : List ℕ) : Type 0 where
  pub shaped : shape bs ≡ Ok tt
  pub command : c ≡ placed p (item_at bs)
  pub whole : size (item_at bs) ≤ length bs
  pub after : rest ≡ drop (size (item_at bs)) bs

-- at a place the bytes begin with a command in range, and the rest follows
pub record Taken (p : ℕ) (bs : List ℕ) (c : Command) (rest : List ℕ) : Type 0 where
  pub item : first bs ≡ Ok (item_at bs)
  pub command : c ≡ placed p (item_at bs)
  pub whole : size (item_at bs) ≤ length bs
  pub after : rest ≡ drop (size (item_at bs)) bs

-- a number is that of n bytes
pub record Spells (n : ℕ) (bs : List ℕ) (w : ℕ) : Type 0 where
  pub value : w ≡ number n bs 0

-- the bytes from the n-th on
abbrev pub beyond : ℕ → List ℕ → List ℕ
beyond n bs = take (length bs - n) (drop n bs)

-- the byte at a place
abbrev pub byte_at : List ℕ → ℕ → ℕ
byte_at bs i = slice_index bs i

pub record FrontLaws (p : ℕ) (bs : List ℕ) : Type 0 where
  pub set : (w : ℕ) → byte_at bs 0 ≡ 1 → 10 ≤ length bs → Spells 8 (byte_at bs 2 ∷ byte_at bs 3 ∷ byte_at bs 4 ∷ byte_at bs 5 ∷ byte_at bs 6 ∷ byte_at bs 7 ∷ byte_at bs 8 ∷ byte_at bs 9 ∷ []) w → Parsed p bs (Set (byte_at bs 1) (p + 10) w) (beyond 10 bs)
  pub copy : byte_at bs 0 ≡ 2 → 3 ≤ length bs → Parsed p bs (Copy (byte_at bs 1) (byte_at bs 2) (p + 3)) (beyond 3 bs)
  pub add : byte_at bs 0 ≡ 3 → 4 ≤ length bs → Parsed p bs (Add (byte_at bs 1) (byte_at bs 2) (byte_at bs 3) (p + 4)) (beyond 4 bs)
  pub subtract : byte_at bs 0 ≡ 4 → 4 ≤ length bs → Parsed p bs (Subtract (byte_at bs 1) (byte_at bs 2) (byte_at bs 3) (p + 4)) (beyond 4 bs)
  pub multiply : byte_at bs 0 ≡ 5 → 4 ≤ length bs → Parsed p bs (Multiply (byte_at bs 1) (byte_at bs 2) (byte_at bs 3) (p + 4)) (beyond 4 bs)
  pub invert : byte_at bs 0 ≡ 6 → 3 ≤ length bs → Parsed p bs (Invert (byte_at bs 1) (byte_at bs 2) (p + 3)) (beyond 3 bs)
  pub test : (z : ℕ) → byte_at bs 0 ≡ 7 → 4 ≤ length bs → Spells 2 (byte_at bs 2 ∷ byte_at bs 3 ∷ []) z → Parsed p bs (Test (byte_at bs 1) z (p + 4)) (beyond 4 bs)
  pub go : (n : ℕ) → byte_at bs 0 ≡ 8 → 3 ≤ length bs → Spells 2 (byte_at bs 1 ∷ byte_at bs 2 ∷ []) n → Parsed p bs (Go n) (beyond 3 bs)
  pub end : byte_at bs 0 ≡ 9 → 2 ≤ length bs → Parsed p bs (End (byte_at bs 1)) (beyond 2 bs)
  pub unknown : (1 ≤ length bs → 1 ≤ byte_at bs 0 → byte_at bs 0 ≤ 9 → ⊥) → shape bs ≡ Err UnknownCommand
  -- what the range of the operands adds
  pub refused : (r : Reason) → shape bs ≡ Err r → first bs ≡ Err r
  pub within : (c : Command) (rest : List ℕ) → Parsed p bs c rest → ranged c ≡ true → Taken p bs c rest
  pub beside : (c : Command) (rest : List ℕ) → Parsed p bs c rest → ranged c ≡ false → first bs ≡ Err OperandRange
