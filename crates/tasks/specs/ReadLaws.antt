-- What reading a program command by command keeps. Assumes nothing.
use Rattle.std.specs.Prelude.{◌≡◌, ℕ, ◌+◌, ◌-◌, ◌<◌, ◌≤◌, List, [], ◌∷◌, ◌++◌, length, replicate, Some, None, Option, Ok, Err, Result}
use Rattle.domains.specs.declared.refusal.Reason.{Reason}
use Rattle.domains.specs.declared.refusal.Reason.TheVariants.{ProgramLength}
use Rattle.tasks.specs.FrontLaws.{Taken}
use Rattle.tasks.specs.Items.{Item}
use Rattle.tasks.specs.Programs.{IsRead, Program}
use Rattle.tasks.specs.Reading.{first, reading, tabled, walked}
use Rattle.tasks.specs.declared.command.Command.{Command}
use Rattle.tasks.specs.declared.reading.ReadError.{ReadError}
use Rattle.tasks.specs.declared.reading.ReadError.TheVariants.{Refused, NoMemory}

-- a refusal is that of reading; of missing memory nothing is said
abbrev pub ReadRefusal : List ℕ → ReadError → Type 0
ReadRefusal bs (Refused e) = reading bs ≡ Err (e.reason, e.place)
ReadRefusal bs NoMemory = Unit {0}

-- the bytes are read as some items, whose table it is
abbrev pub ReadTable : List ℕ → List (Option Command) → Type 0
ReadTable bs cs = (is : List Item) × Program bs is cs

-- a command was taken off the front of the bytes and entered into the table
pub record Entered (cs : List (Option Command)) (bs : List ℕ) (ds : List (Option Command)) (rest : List ℕ) : Type 0 where
  pub command : Command
  pub taken : Taken (length cs) bs command rest
  pub table : ds ≡ cs ++ (Some command ∷ replicate (length bs - length rest - 1) None)

-- no command could be taken, for want of memory or by a refusal with the place after the table
abbrev pub EntryRefusal : List (Option Command) → List ℕ → ReadError → Type 0
EntryRefusal cs bs (Refused e) = (first bs ≡ Err e.reason) × (e.place ≡ length cs)
EntryRefusal cs bs NoMemory = Unit {0}

-- items in front of what is read after them
abbrev pub prefixed : List Item → Result (List Item) (Reason × ℕ) → Result (List Item) (Reason × ℕ)
prefixed is (Ok js) = Ok (is ++ js)
prefixed is (Err e) = Err e

-- some of the bytes are read into the table, and the rest is left
pub record Going (bs : List ℕ) (cs : List (Option Command)) (rest : List ℕ) : Type 0 where
  pub items : List Item
  pub table : cs ≡ tabled 0 items
  pub parts : length cs + length rest ≡ length bs
  pub fuel : ℕ
  pub enough : length rest ≤ fuel
  pub reads : walked (length bs) 0 bs ≡ prefixed items (walked fuel (length cs) rest)

-- a length that a program may have
pub record Fitting (bs : List ℕ) : Type 0 where
  pub some : 1 ≤ length bs
  pub few : length bs ≤ 1024

pub record ReadLaws (bs : List ℕ) : Type 0 where
  pub empty : length bs ≡ 0 → reading bs ≡ Err (ProgramLength, 0)
  pub long : 1024 < length bs → reading bs ≡ Err (ProgramLength, 0)
  pub start : Going bs [] bs
  pub step : (cs ds : List (Option Command)) (ms rest : List ℕ) → Going bs cs ms → 1 ≤ length ms → Entered cs ms ds rest → Going bs ds rest
  pub shorter : (cs ds : List (Option Command)) (ms rest : List ℕ) → 1 ≤ length ms → Entered cs ms ds rest → length rest < length ms
  pub refusal : (cs : List (Option Command)) (rest : List ℕ) (e : ReadError) → Fitting bs → Going bs cs rest → 1 ≤ length rest → EntryRefusal cs rest e → ReadRefusal bs e
  pub finish : (cs : List (Option Command)) (rest : List ℕ) → Fitting bs → Going bs cs rest → length rest ≡ 0 → ReadTable bs cs
  pub made : (cs : List (Option Command)) → ReadTable bs cs → ∥ IsRead cs ∥₁
