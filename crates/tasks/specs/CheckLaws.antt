-- Checking a program by its table of commands. Assumes nothing.
use Rattle.std.specs.Prelude.{◌≡◌, ℕ, suc, ◌+◌, ◌-◌, ◌<◌, Bool, true, false, cond, not, List, [], ◌∷◌, length, drop, reverse, Some, None, Option, Ok, Err, Result, is_some, slice_index_or}
use Rattle.std.specs.List.{position}
use Rattle.std.specs.Option.{unwrap_or}
use Rattle.domains.specs.declared.refusal.Reason.{Reason}
use Rattle.domains.specs.declared.refusal.Reason.TheVariants.{JumpTarget, LastCommand}
use Rattle.tasks.specs.Programs.{IsChecked, IsRead, Verdict}
use Rattle.tasks.specs.declared.command.Command.{Command}
use Rattle.tasks.specs.declared.command.Command.TheVariants.{Test, Go, End}

-- the command at a place: none past the end
abbrev pub command_at : List (Option Command) → ℕ → Option Command
command_at cs p = slice_index_or cs p None

-- the entry of a place: END 240 where there is no command
abbrev pub entry : List (Option Command) → ℕ → Command
entry cs p = unwrap_or (command_at cs p) (End 240)

-- where a command jumps to stands a command
abbrev pub lands : List (Option Command) → Option Command → Bool
lands cs (Some (Test a z o)) = is_some (command_at cs z)
lands cs (Some (Go n)) = is_some (command_at cs n)
lands cs c = true

-- GO and END
abbrev pub closes : Command → Bool
closes (Go n) = true
closes (End c) = true
closes c = false

-- the jumps of the commands from a place on
abbrev pub scanned : List (Option Command) → ℕ → List (Option Command) → Result (Unit {0}) (Reason × ℕ)
scanned all p [] = Ok tt
scanned all p (c ∷ cs) = cond (lands all c) (scanned all (suc p) cs) (Err (JumpTarget, p))

-- the last place with a command among those from a place on, else l
abbrev pub last_from : ℕ → ℕ → List (Option Command) → ℕ
last_from l p [] = l
last_from l p (c ∷ cs) = last_from (cond (is_some c) p l) (suc p) cs

-- whether the last command is GO or END
abbrev pub closed : List (Option Command) → Result (Unit {0}) (Reason × ℕ)
closed cs = cond (closes (entry cs (last_from 0 0 cs))) (Ok tt) (Err (LastCommand, last_from 0 0 cs))

-- the refusal of the first jump to no command, if there is one
abbrev pub first_stray : Option ℕ → Result (Unit {0}) (Reason × ℕ)
first_stray None = Ok tt
first_stray (Some p) = Err (JumpTarget, p)

-- the place among n that is the k-th from the back, 0 if there is none
abbrev pub from_back : ℕ → Option ℕ → ℕ
from_back n None = 0
from_back n (Some k) = n - 1 - k

-- the jumps before a place land
pub record Scanning (cs : List (Option Command)) (p : ℕ) : Type 0 where
  pub left : scanned cs 0 cs ≡ scanned cs p (drop p cs)

-- l is the last place with a command before a place
pub record Passing (cs : List (Option Command)) (l p : ℕ) : Type 0 where
  pub left : last_from 0 0 cs ≡ last_from l p (drop p cs)

pub record CheckLaws (cs : List (Option Command)) : Type 0 where
  -- place by place, from the front
  pub scan_start : Scanning cs 0
  pub scan_step : (p : ℕ) (c : Option Command) → p < length cs → Scanning cs p → c ≡ command_at cs p → lands cs c ≡ true → Scanning cs (p + 1)
  pub scan_stop : (p : ℕ) (c : Option Command) → p < length cs → Scanning cs p → c ≡ command_at cs p → lands cs c ≡ false → scanned cs 0 cs ≡ Err (JumpTarget, p)
  pub scan_end : Scanning cs (length cs) → scanned cs 0 cs ≡ Ok tt
  pub pass_start : Passing cs 0 0
  pub pass_step : (l p : ℕ) (c : Option Command) (n : ℕ) → p < length cs → Passing cs l p → c ≡ command_at cs p → n ≡ cond (is_some c) p l → Passing cs n (p + 1)
  pub pass_end : (l : ℕ) → Passing cs l (length cs) → last_from 0 0 cs ≡ l
  -- the jumps are refused by the first that goes to no command
  pub scan : scanned cs 0 cs ≡ first_stray (position (λ c. not (lands cs c)) cs)
  -- the last place with a command is the first from the back
  pub last : last_from 0 0 cs ≡ from_back (length cs) (position is_some (reverse cs))
  -- what is found so is what checking the items answers
  pub stray : (e : Reason × ℕ) → scanned cs 0 cs ≡ Err e → Verdict cs (Err e)
  pub ended : (v : Result (Unit {0}) (Reason × ℕ)) → scanned cs 0 cs ≡ Ok tt → closed cs ≡ v → Verdict cs v
  pub made : ∥ IsRead cs ∥₁ → Verdict cs (Ok tt) → ∥ IsChecked cs ∥₁
