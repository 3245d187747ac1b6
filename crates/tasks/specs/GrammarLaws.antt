-- What reading and checking have to do with the grammar. Assumes nothing.
use Rattle.std.specs.Prelude.{◌≡◌, ℕ, List, Some, None, Option, Ok, Err}
use Rattle.domains.specs.declared.refusal.Refusal.{Refusal}
use Rattle.tasks.specs.CheckLaws.{command_at, entry}
use Rattle.tasks.specs.Items.{Item, placed}
use Rattle.tasks.specs.ReadLaws.{ReadRefusal, ReadTable}
use Rattle.tasks.specs.Reading.{judged, tabled}
use Rattle.tasks.specs.declared.command.Command.{Command}
use Rattle.tasks.specs.declared.command.Command.TheVariants.{End}
use Rattle.tasks.specs.declared.reading.ReadError.{ReadError}
use Rattle.tasks.specs.declared.reading.ReadError.TheVariants.{Refused, NoMemory}
use Rattle.tasks.specs.Grammar.{Accepted, At, Bytes, Grammatical}
use Rattle.tasks.specs.Programs.{Verdict}

pub record GrammarLaws (bs : List ℕ) : Type 0 where
  -- bytes are accepted with some items exactly where they are a program with them
  pub sound : Bytes bs → (is : List Item) → Accepted bs is → Grammatical bs is
  pub complete : (is : List Item) → Grammatical bs is → Accepted bs is
  -- these are the only items
  pub unique : (is js : List Item) → Grammatical bs is → Grammatical bs js → is ≡ js
  -- the table has at an offset the command of the item there, and elsewhere none
  pub there : (is : List Item) (p : ℕ) (i : Item) → At is p i → command_at (tabled 0 is) p ≡ Some (placed p i)
  pub nowhere : (is : List Item) (p : ℕ) → ((i : Item) → At is p i → ⊥) → command_at (tabled 0 is) p ≡ None
  -- so the entry of an offset is that command, and elsewhere it is END 240
  pub command : (is : List Item) (p : ℕ) (i : Item) → At is p i → entry (tabled 0 is) p ≡ placed p i
  pub elsewhere : (is : List Item) (p : ℕ) → ((i : Item) → At is p i → ⊥) → entry (tabled 0 is) p ≡ End 240

-- it is the table of the items that the bytes are a program with
pub record IsProgram (bs : List ℕ) (cs : List (Option Command)) : Type 0 where
  pub items : List Item
  pub grammatical : Grammatical bs items
  pub table : cs ≡ tabled 0 items

-- the bytes are judged so, and are no program
pub record NoProgram (bs : List ℕ) (e : Refusal) : Type 0 where
  pub refusal : judged bs ≡ Err (e.reason, e.place)
  pub none : (is : List Item) → Grammatical bs is → ⊥

-- refused bytes are no program; of missing memory nothing is said
abbrev pub Rejected : List ℕ → ReadError → Type 0
Rejected bs (Refused e) = NoProgram bs e
Rejected bs NoMemory = Unit {0}

pub record AcceptLaws (bs : List ℕ) : Type 0 where
  pub accepts : (cs ds : List (Option Command)) → Bytes bs → ReadTable bs cs → Verdict cs (Ok tt) → ds ≡ cs → IsProgram bs ds
  pub unread : (e : ReadError) → ReadRefusal bs e → Rejected bs e
  pub unchecked : (cs : List (Option Command)) (e : Refusal) → ReadTable bs cs → Verdict cs (Err (e.reason, e.place)) → Rejected bs (Refused e)
