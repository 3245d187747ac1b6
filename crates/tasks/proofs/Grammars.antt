-- Reading and checking accept the grammar.
use Rattle.std.proofs.Common.{◌≡◌, ℕ, ◌≤◌, List, [], ◌∷◌, length, Some, Option, Ok, Err, Result, sym, ap, ◌∙◌, subst, zero-add, arith}
use Rattle.std.specs.Option.{unwrap_or}
use Rattle.std.specs.Result.{result_and}
use Rattle.std.proofs.lemmas.Bool.Decides.{nat_tests}
use Rattle.domains.specs.declared.refusal.Reason.{Reason}
use Rattle.domains.specs.declared.refusal.Refusal.{Refusal}
use Rattle.tasks.specs.CheckLaws.{command_at}
use Rattle.tasks.specs.Grammar.{Accepted, At, Bytes, Closed, Grammatical, joined}
use Rattle.tasks.specs.GrammarLaws.{AcceptLaws, GrammarLaws, IsProgram, Rejected}
use Rattle.tasks.specs.Items.{Item, placed}
use Rattle.tasks.specs.Programs.{Verdict}
use Rattle.tasks.specs.ReadLaws.{Fitting, ReadRefusal, ReadTable}
use Rattle.tasks.specs.Reading.{ending, jumps, laid, reading, tabled, walked}
use Rattle.tasks.specs.declared.command.Command.{Command}
use Rattle.tasks.specs.declared.command.Command.TheVariants.{End}
use Rattle.tasks.specs.declared.reading.ReadError.{ReadError}
use Rattle.tasks.specs.declared.reading.ReadError.TheVariants.{Refused, NoMemory}
use Rattle.tasks.proofs.Offsets.{both, closes_ending, command_nowhere, command_there, ending_closes, jump_landing, jumps_land, land_jumps, landing_jump}
use Rattle.tasks.proofs.Spellings.{walked_joined, walked_written}
use Rattle.tasks.specs.Walks.{fitting}

-- what is read has a length that a program may have
reads_fitting : (bs : List ℕ) (is : List Item) → reading bs ≡ Ok is → Fitting bs
reads_fitting bs is h = record { some = grind (arith, nat_tests); few = grind (arith, nat_tests) }

-- no items are written as no bytes
items_close : (is : List Item) → 1 ≤ length (joined is) → ending (laid 0 is) ≡ Ok tt → Closed is
items_close [] h e = absurd (omega arith)
items_close (i ∷ is) h e = ending_closes 0 i is e

sound : (bs : List ℕ) → Bytes bs → (is : List Item) → Accepted bs is → Grammatical bs is
sound bs b is a =
    let f = reads_fitting bs is a.reads in
    let w = walked_written (length bs) 0 bs is (omega arith) b (sym (fitting bs f) ∙ a.reads) in
    let c = both (jumps (laid 0 is) (laid 0 is)) (ending (laid 0 is)) a.checks in
    record {
      some = f.some;
      few = f.few;
      spelled = w.0;
      proper = w.1;
      landing = λ p t i at j. landing_jump is i (jumps_land (laid 0 is) 0 is c.0 p i at) t j;
      ends = items_close is (let s = f.some in let l = ap length w.0 in omega arith) c.1;
    }

complete : (bs : List ℕ) (is : List Item) → Grammatical bs is → Accepted bs is
complete bs is g =
    record {
      reads =
          fitting bs (record { some = g.some; few = g.few })
          ∙ subst (λ (ms : List ℕ). walked (length ms) 0 ms ≡ Ok is) (sym g.spelled) (walked_joined (length (joined is)) 0 is (omega arith) g.proper);
      checks =
          ap (λ (a : Result (Unit {0}) (Reason × ℕ)). result_and a (ending (laid 0 is))) (land_jumps (laid 0 is) 0 is (λ k i a. jump_landing is i (λ t e. g.landing k t i a e)))
          ∙ closes_ending 0 is g.ends;
    }

unique : (bs : List ℕ) (is js : List Item) → Grammatical bs is → Grammatical bs js → is ≡ js
unique bs is js g h = let a = (complete bs is g).reads in let b = (complete bs js h).reads in cc

-- the table at an offset
there : (is : List Item) (p : ℕ) (i : Item) → At is p i → command_at (tabled 0 is) p ≡ Some (placed p i)
there is p i a = command_there 0 is p i a ∙ ap (λ (n : ℕ). Some (placed n i)) (zero-add p)

pub grammar_laws : (bs : List ℕ) → GrammarLaws bs
grammar_laws bs = record {
  sound = sound bs;
  complete = complete bs;
  unique = unique bs;
  there = there;
  nowhere = command_nowhere 0;
  command = λ is p i a. ap (λ c. unwrap_or c (End 240)) (there is p i a);
  elsewhere = λ is p h. ap (λ c. unwrap_or c (End 240)) (command_nowhere 0 is p h);
}

-- what is refused is no program
pub unread : (bs : List ℕ) (e : ReadError) → ReadRefusal bs e → Rejected bs e
unread bs NoMemory h = tt
unread bs (Refused e) h = record {
  refusal = grind arith;
  none = λ is g. let a = (complete bs is g).reads in cc;
}

pub unchecked : (bs : List ℕ) (cs : List (Option Command)) (e : Refusal) → ReadTable bs cs → Verdict cs (Err (e.reason, e.place)) → Rejected bs (Refused e)
unchecked bs cs e t v =
    let c = v.given bs t.0 t.1 in
    let r = t.1.reads in
    record {
      refusal = grind arith;
      none = λ is g. let a = complete bs is g in grind (arith, a.reads, a.checks);
    }

-- what is accepted is one
pub accepted : (bs : List ℕ) (cs ds : List (Option Command)) → Bytes bs → ReadTable bs cs → Verdict cs (Ok tt) → ds ≡ cs → IsProgram bs ds
accepted bs cs ds b t v e = record {
  items = t.0;
  grammatical = sound bs b t.0 (record { reads = t.1.reads; checks = v.given bs t.0 t.1 });
  table = e ∙ t.1.table;
}

pub accept_laws : (bs : List ℕ) → AcceptLaws bs
accept_laws bs = record { accepts = accepted bs; unread = unread bs; unchecked = unchecked bs }
