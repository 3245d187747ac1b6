-- Which bytes are a program, by an executable definition: reading from the front, then checking. Assumes nothing.
use Rattle.std.specs.Prelude.{ℕ, zero, suc, ◌+◌, ◌-◌, ◌*◌, Bool, true, false, cond, ◌&&◌, ◌||◌, List, [], ◌∷◌, ◌++◌, length, drop, replicate, Some, None, Option, Ok, Err, Result, ◌==◌, nat_le, slice_index, slice_index_or}
use Rattle.std.specs.Result.{result_and}
use Rattle.domains.specs.declared.refusal.Reason.{Reason}
use Rattle.domains.specs.declared.refusal.Reason.TheVariants.{ProgramLength, UnknownCommand, MissingOperands, OperandRange, JumpTarget, LastCommand}
use Rattle.tasks.specs.Items.{Item, set_item, copy_item, add_item, subtract_item, multiply_item, invert_item, test_item, go_item, end_item, length_of, size, in_range, placed}
use Rattle.tasks.specs.declared.command.Command.{Command}

-- the number of n bytes from the i-th on, the lowest first
abbrev pub number : ℕ → List ℕ → ℕ → ℕ
number zero bs i = 0
number (suc n) bs i = slice_index bs i + 256 * number n bs (suc i)

-- the item at the front of enough bytes, by the command byte
abbrev pub item_at : List ℕ → Item
item_at bs =
    let b = slice_index_or bs 0 0 in
    cond (b == 1) (set_item (slice_index bs 1) (number 8 bs 2))
    (cond (b == 2) (copy_item (slice_index bs 1) (slice_index bs 2))
    (cond (b == 3) (add_item (slice_index bs 1) (slice_index bs 2) (slice_index bs 3))
    (cond (b == 4) (subtract_item (slice_index bs 1) (slice_index bs 2) (slice_index bs 3))
    (cond (b == 5) (multiply_item (slice_index bs 1) (slice_index bs 2) (slice_index bs 3))
    (cond (b == 6) (invert_item (slice_index bs 1) (slice_index bs 2))
    (cond (b == 7) (test_item (slice_index bs 1) (number 2 bs 2))
    (cond (b == 8) (go_item (number 2 bs 1))
    (end_item (slice_index bs 1)))))))))

-- whether bytes begin with a command byte and enough operands, or why not, tried in this order
abbrev pub shape : List ℕ → Result (Unit {0}) Reason
shape bs =
    let b = slice_index_or bs 0 0 in
    cond (nat_le 1 b && nat_le b 9) (cond (nat_le (length_of b) (length bs)) (Ok tt) (Err MissingOperands)) (Err UnknownCommand)

-- the item at the front, or why there is none: the shape, and then operands out of range
abbrev pub first : List ℕ → Result Item Reason
first bs = elim (shape bs) [ Err r ↦ Err r | Ok _ ↦ cond (in_range (item_at bs)) (Ok (item_at bs)) (Err OperandRange) ]

-- what is read from a place on: the items, or the refusal of the first that is none; n is at least as many as the bytes
abbrev pub walked : ℕ → ℕ → List ℕ → Result (List Item) (Reason × ℕ)
walked n p [] = Ok []
walked zero p (b ∷ bs) = Ok []
walked (suc n) p (b ∷ bs) =
    elim (first (b ∷ bs)) [
      | Err r ↦ Err (r, p)
      | Ok i ↦ elim (walked n (p + size i) (drop (size i) (b ∷ bs))) [ Err e ↦ Err e | Ok is ↦ Ok (i ∷ is) ]
    ]

-- reading: 1 to 1,024 bytes, and then items from the front
abbrev pub reading : List ℕ → Result (List Item) (Reason × ℕ)
reading bs = cond (nat_le 1 (length bs) && nat_le (length bs) 1024) (walked (length bs) 0 bs) (Err (ProgramLength, 0))

-- the items with their places
abbrev pub laid : ℕ → List Item → List (ℕ × Item)
laid p [] = []
laid p (i ∷ is) = (p, i) ∷ laid (p + size i) is

-- some item stands at a place
abbrev pub starts_at : List (ℕ × Item) → ℕ → Bool
starts_at [] p = false
starts_at (x ∷ xs) p = x.0 == p || starts_at xs p

-- where an item jumps to lies at the start of an item; an item that does not jump is right
abbrev pub landing : List (ℕ × Item) → Item → Bool
landing all (test_item a z) = starts_at all z
landing all (go_item n) = starts_at all n
landing all i = true

-- GO and END
abbrev pub closing : Item → Bool
closing (go_item n) = true
closing (end_item c) = true
closing i = false

-- the jumps of some of the items, from the front
abbrev pub jumps : List (ℕ × Item) → List (ℕ × Item) → Result (Unit {0}) (Reason × ℕ)
jumps all [] = Ok tt
jumps all (x ∷ xs) = cond (landing all x.1) (jumps all xs) (Err (JumpTarget, x.0))

-- the last item is GO or END; of no item nothing is asked
abbrev pub ending : List (ℕ × Item) → Result (Unit {0}) (Reason × ℕ)
ending [] = Ok tt
ending (x ∷ []) = cond (closing x.1) (Ok tt) (Err (LastCommand, x.0))
ending (x ∷ (y ∷ ys)) = ending (y ∷ ys)

-- checking: all jumps from the front, then the last item
abbrev pub checking : List Item → Result (Unit {0}) (Reason × ℕ)
checking is = result_and (jumps (laid 0 is) (laid 0 is)) (ending (laid 0 is))

-- reading, and then checking what was read
abbrev pub judged : List ℕ → Result (List Item) (Reason × ℕ)
judged bs = elim (reading bs) [ Err e ↦ Err e | Ok is ↦ elim (checking is) [ Err e ↦ Err e | Ok _ ↦ Ok is ] ]

-- the commands by their place: an item's command at its first byte, none at its other bytes
abbrev pub tabled : ℕ → List Item → List (Option Command)
tabled p [] = []
tabled p (i ∷ is) = Some (placed p i) ∷ (replicate (size i - 1) None ++ tabled (p + size i) is)
