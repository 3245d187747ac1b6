-- The laws of checking a program by its table.
use Rattle.std.proofs.Common.{◌≡◌, ℕ, zero, suc, ◌+◌, ◌-◌, ◌<◌, false, cond, not, List, [], ◌∷◌, ◌++◌, length, replicate, Some, None, Option, Ok, Err, Result, is_some, sym, refl, ap, ◌∙◌, append_assoc, add-zero, zero-add, arith, add-one, length-append, drop, drop-cons}
use mathlib.Core.Logic.{∥∥₁_map}
use lib.Seq.{drop-length, get_or_at}
use Rattle.std.specs.List.{position, position_from}
use Rattle.std.specs.Result.{result_and}
use Rattle.std.proofs.lemmas.Iterator.Adapters.{position_from-zero}
use Rattle.std.proofs.lemmas.Bool.Decides.{nat_tests}
use Rattle.domains.specs.declared.refusal.Reason.{Reason}
use Rattle.domains.specs.declared.refusal.Reason.TheVariants.{JumpTarget, LastCommand}
use Rattle.tasks.specs.CheckLaws.{CheckLaws, closed, closes, command_at, entry, first_stray, lands, last_from, scanned}
use Rattle.tasks.specs.Items.{Item, placed, size}
use Rattle.tasks.specs.Programs.{IsChecked, IsRead, Program, Verdict}
use Rattle.tasks.specs.Reading.{checking, closing, ending, jumps, laid, landing, starts_at, tabled}
use Rattle.tasks.specs.declared.command.Command.{Command}
use Rattle.tasks.proofs.Lasts.{last_position}
use Rattle.tasks.specs.Tables.{filled, length_part, part, size_some}

abbrev Answer : Type 0
Answer = Result (Unit {0}) (Reason × ℕ)

closes_placed : (p : ℕ) (i : Item) → closes (placed p i) ≡ closing i
closes_placed p i = grind arith

-- no item stands before the first
starts_later : (p : ℕ) (is : List Item) (z : ℕ) → z < p → starts_at (laid p is) z ≡ false
starts_later p [] z h = refl
starts_later p (i ∷ is) z h = grind (arith, nat_tests, starts_later (p + size i) is z)

-- an item stands where the table has a command
starts_some : (p : ℕ) (is : List Item) (k : ℕ) → starts_at (laid p is) (p + k) ≡ is_some (command_at (tabled p is) k)
starts_some p [] k = refl
starts_some p (i ∷ is) zero = grind (arith, nat_tests)
starts_some p (i ∷ is) (suc k) =
    grind (arith, nat_tests, size_some i, filled (size i - 1) k (tabled (p + size i) is), starts_later (p + size i) is (p + suc k), starts_some (p + size i) is (k - (size i - 1)))

module _ (all : List (ℕ × Item)) (cs : List (Option Command)) (agree : (z : ℕ) → starts_at all z ≡ is_some (command_at cs z)) where
  -- an item lands where its command does
  landing_placed : (p : ℕ) (i : Item) → landing all i ≡ lands cs (Some (placed p i))
  landing_placed p i = grind (arith, agree)

  -- places with no command jump nowhere
  scanned_filler : (k q : ℕ) (rest : List (Option Command)) → scanned cs q (replicate k None ++ rest) ≡ scanned cs (q + k) rest
  scanned_filler zero q rest = rw add-zero refl
  scanned_filler (suc k) q rest = grind (arith, scanned_filler k (suc q) rest)

  jumps_scanned : (p : ℕ) (is : List Item) → jumps all (laid p is) ≡ scanned cs p (tabled p is)
  jumps_scanned p [] = refl
  jumps_scanned p (i ∷ is) =
      grind (arith, size_some i, landing_placed p i, jumps_scanned (p + size i) is, scanned_filler (size i - 1) (suc p) (tabled (p + size i) is))

last_from_filler : (k l q : ℕ) (rest : List (Option Command)) → last_from l q (replicate k None ++ rest) ≡ last_from l (q + k) rest
last_from_filler zero l q rest = rw add-zero refl
last_from_filler (suc k) l q rest = grind (arith, last_from_filler k l (suc q) rest)

-- the last place of a table goes on after an item
last_from_item : (l p : ℕ) (i : Item) (is : List Item) → last_from l p (tabled p (i ∷ is)) ≡ last_from p (p + size i) (tabled (p + size i) is)
last_from_item l p i is = grind (arith, size_some i, last_from_filler (size i - 1) p (suc p) (tabled (p + size i) is))

-- the answer on a last command at a place
abbrev last_answer : List (Option Command) → ℕ → Answer
last_answer cs q = cond (closes (entry cs q)) (Ok tt) (Err (LastCommand, q))

ending_last : (pre : List (Option Command)) (l p : ℕ) (i : Item) (is : List Item) → length pre ≡ p → ending (laid p (i ∷ is)) ≡ last_answer (pre ++ tabled p (i ∷ is)) (last_from l p (tabled p (i ∷ is)))
ending_last pre l p i [] h = rw (last_from_item l p i [], get_or_at pre (Some (placed p i)) (replicate (size i - 1) None ++ []) None p h, closes_placed p i) refl
ending_last pre l p i (j ∷ js) h =
    let n : length (pre ++ part p i) ≡ p + size i = let m = length_part p i in let k = length-append pre (part p i) in omega arith in
    ending_last (pre ++ part p i) p (p + size i) j js n
    ∙ ap (λ (t : List (Option Command)). last_answer t (last_from p (p + size i) (tabled (p + size i) (j ∷ js)))) (append_assoc pre (part p i) (tabled (p + size i) (j ∷ js)))
    ∙ ap (last_answer (pre ++ tabled p (i ∷ j ∷ js))) (sym (last_from_item l p i (j ∷ js)))

ending_closed : (is : List Item) → ending (laid 0 is) ≡ closed (tabled 0 is)
ending_closed [] = refl
ending_closed (i ∷ is) = ending_last [] 0 0 i is refl

-- the first jump to no command, from a place on
scanned_first : (all : List (Option Command)) (p : ℕ) (cs : List (Option Command)) → scanned all p cs ≡ first_stray (position_from (λ c. not (lands all c)) p cs)
scanned_first all p [] = refl
scanned_first all p (c ∷ cs) = grind (arith, scanned_first all (suc p) cs)

-- so checking the jumps is looking for the first one to no command
pub scanned_position : (cs : List (Option Command)) → scanned cs 0 cs ≡ first_stray (position (λ c. not (lands cs c)) cs)
scanned_position cs = scanned_first cs 0 cs ∙ ap first_stray (sym (position_from-zero (λ c. not (lands cs c)) cs))

-- what checking answers is what the table tells
told : (bs : List ℕ) (is : List Item) (cs : List (Option Command)) → Program bs is cs → checking is ≡ result_and (scanned cs 0 cs) (closed cs)
told bs is cs h =
    let agree : (z : ℕ) → starts_at (laid 0 is) z ≡ is_some (command_at (tabled 0 is) z) = λ z. ap (starts_at (laid 0 is)) (sym (zero-add z)) ∙ starts_some 0 is z in
    rw h.table
    (ap (λ (a : Answer). result_and a (ending (laid 0 is))) (jumps_scanned (laid 0 is) (tabled 0 is) agree 0 is)
    ∙ ap (result_and (scanned (tabled 0 is) 0 (tabled 0 is))) (ending_closed is))

-- a jump to no command is what is wrong with the program
pub stray : (cs : List (Option Command)) (e : Reason × ℕ) → scanned cs 0 cs ≡ Err e → Verdict cs (Err e)
stray cs e h = record { given = λ bs is p. told bs is cs p ∙ rw h refl }

-- where all jumps are right, the last command decides
pub ended : (cs : List (Option Command)) (v : Answer) → scanned cs 0 cs ≡ Ok tt → closed cs ≡ v → Verdict cs v
ended cs v h e = record { given = λ bs is p. told bs is cs p ∙ rw h e }

-- a read program with nothing wrong is a checked one
pub checked : (cs : List (Option Command)) → ∥ IsRead cs ∥₁ → Verdict cs (Ok tt) → ∥ IsChecked cs ∥₁
checked cs r v = ∥∥₁_map r (λ x. record { bytes = x.bytes; items = x.items; program = x.program; checks = v.given x.bytes x.items x.program })

scan_next : (cs : List (Option Command)) (p : ℕ) → p < length cs → scanned cs p (drop p cs) ≡ cond (lands cs (command_at cs p)) (scanned cs (suc p) (drop (suc p) cs)) (Err (JumpTarget, p))
scan_next cs p h = rw (drop-cons cs p None h) refl

pub check_laws : (cs : List (Option Command)) → CheckLaws cs
check_laws cs = record {
  scan_start = record { left = refl };
  scan_step = λ p c h s e v. record { left = s.left ∙ scan_next cs p h ∙ rw (add-one, sym e, v) refl };
  scan_stop = λ p c h s e v. s.left ∙ scan_next cs p h ∙ rw (sym e, v) refl;
  scan_end = λ s. s.left ∙ rw drop-length refl;
  pass_start = record { left = refl };
  pass_step = λ l p c n h s e v. record { left = s.left ∙ rw (add-one, v, e, drop-cons cs p None h) refl };
  pass_end = λ l s. s.left ∙ rw drop-length refl;
  scan = scanned_position cs;
  last = last_position cs;
  stray = stray cs;
  ended = ended cs;
  made = checked cs;
}
