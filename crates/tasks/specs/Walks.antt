-- The laws of reading command by command.
use Rattle.std.specs.Prelude.{◌≡◌, ℕ, zero, suc, ◌+◌, ◌-◌, ◌<◌, ◌≤◌, List, [], ◌∷◌, ◌++◌, length, drop, Option, Ok, Err, Result, refl}
use Rattle.std.proofs.Common.{sym, ◌∙◌, ap, append_assoc, append-nil, arith, length-append, length-drop}
use Rattle.std.proofs.lemmas.List.{length-replicate}
use Rattle.std.proofs.lemmas.Bool.Decides.{nat_tests}
use Rattle.domains.specs.declared.refusal.Reason.{Reason}
use Rattle.domains.specs.declared.refusal.Reason.TheVariants.{ProgramLength}
use Rattle.tasks.specs.Items.{Item, size}
use Rattle.tasks.specs.Programs.{IsRead}
use Rattle.tasks.specs.ReadLaws.{ReadLaws, ReadRefusal, ReadTable, Entered, EntryRefusal, Going, Fitting, prefixed}
use Rattle.tasks.specs.Reading.{first, item_at, reading, walked}
use Rattle.tasks.specs.declared.command.Command.{Command}
use Rattle.tasks.specs.declared.reading.ReadError.{ReadError}
use Rattle.tasks.specs.declared.reading.ReadError.TheVariants.{Refused, NoMemory}
use Rattle.tasks.specs.Tables.{size_some, part, tabled_more}

abbrev pub Outcome : Type 0
Outcome = Result (List Item) (Reason × ℕ)

prefixed_none : (r : Outcome) → prefixed [] r ≡ r
prefixed_none r = grind (arith, append-nil)

prefixed_twice : (is js : List Item) (r : Outcome) → prefixed is (prefixed js r) ≡ prefixed (is ++ js) r
prefixed_twice is js r = grind (arith, append_assoc)

-- reading nothing
pub walked_none : (n p : ℕ) → walked n p [] ≡ Ok []
walked_none zero p = refl
walked_none (suc n) p = refl

-- what is read from bytes with an item, or none, at their front
abbrev pub onward : ℕ → ℕ → List ℕ → Result Item Reason → Outcome
onward n p ms (Err r) = Err (r, p)
onward n p ms (Ok i) = prefixed (i ∷ []) (walked n (p + size i) (drop (size i) ms))

pub walked_onward : (n p : ℕ) (ms : List ℕ) → 1 ≤ length ms → walked (suc n) p ms ≡ onward n p ms (first ms)
walked_onward n p [] h = absurd (omega arith)
walked_onward n p (b ∷ bs) h = grind arith

-- what was read from some bytes: the item at their front, and what was read from the rest
pub record Onward (n p : ℕ) (ms : List ℕ) (is : List Item) : Type 0 where
  pub item : Item
  pub others : List Item
  pub front : first ms ≡ Ok item
  pub rest : walked n (p + size item) (drop (size item) ms) ≡ Ok others
  pub both : is ≡ item ∷ others

pub walked_tells : (n p b : ℕ) (bs : List ℕ) (is : List Item) → walked (suc n) p (b ∷ bs) ≡ Ok is → Onward n p (b ∷ bs) is
walked_tells n p b bs is e = by_first (first (b ∷ bs)) refl (sym (walked_onward n p (b ∷ bs) (omega arith)) ∙ e) where
  by_rest : (i : Item) → first (b ∷ bs) ≡ Ok i → (r : Outcome) → walked n (p + size i) (drop (size i) (b ∷ bs)) ≡ r → prefixed (i ∷ []) r ≡ Ok is → Onward n p (b ∷ bs) is
  by_rest i f (Err r) h e = cc
  by_rest i f (Ok js) h e = record { item = i; others = js; front = f; rest = h; both = cc }

  by_first : (f : Result Item Reason) → first (b ∷ bs) ≡ f → onward n p (b ∷ bs) f ≡ Ok is → Onward n p (b ∷ bs) is
  by_first (Err r) h e = cc
  by_first (Ok i) h e = by_rest i h (walked n (p + size i) (drop (size i) (b ∷ bs))) refl e

-- with fuel for one item more
pub walked_fuel : (n p : ℕ) (ms : List ℕ) → 1 ≤ length ms → length ms ≤ n → walked n p ms ≡ onward (n - 1) p ms (first ms)
walked_fuel n p ms h l = let e : n ≡ suc (n - 1) = omega arith in grind (arith, walked_onward (n - 1) p ms h)

-- bytes of a fitting length
pub fitting : (bs : List ℕ) → Fitting bs → reading bs ≡ walked (length bs) 0 bs
fitting bs h = let l = h.some in let k = h.few in grind (arith, nat_tests)

-- the rest is shorter by the item
rest_length : (cs ds : List (Option Command)) (ms rest : List ℕ) → Entered cs ms ds rest → length rest ≡ length ms - size (item_at ms)
rest_length cs ds ms rest e = ap length e.taken.after ∙ length-drop (size (item_at ms)) ms

pub shorter : (cs ds : List (Option Command)) (ms rest : List ℕ) → 1 ≤ length ms → Entered cs ms ds rest → length rest < length ms
shorter cs ds ms rest h e = let k = rest_length cs ds ms rest e in let s = size_some (item_at ms) in omega arith

pub step : (bs : List ℕ) (cs ds : List (Option Command)) (ms rest : List ℕ) → Going bs cs ms → 1 ≤ length ms → Entered cs ms ds rest → Going bs ds rest
step bs cs ds ms rest g h e =
    let i : Item = item_at ms in
    let k = rest_length cs ds ms rest e in
    let s = size_some i in
    let w = e.taken.whole in
    let n : length ms - length rest - 1 ≡ size i - 1 = omega arith in
    let t : ds ≡ cs ++ part (length cs) i = e.table ∙ rw (n, e.taken.command) refl in
    let l : length ds ≡ length cs + size i = ap length t ∙ simp (length-append, length-replicate) (omega arith) in
    record {
      items = g.items ++ i ∷ [];
      table = t ∙ rw g.table (sym (tabled_more g.items i));
      parts = let o = g.parts in omega arith;
      fuel = g.fuel - 1;
      enough = let o = g.enough in omega arith;
      reads = grind (arith, walked_fuel g.fuel (length cs) ms h g.enough, e.taken.item, e.taken.after, prefixed_twice g.items (i ∷ []));
    }

pub refusal : (bs : List ℕ) (cs : List (Option Command)) (rest : List ℕ) (e : ReadError) → Fitting bs → Going bs cs rest → 1 ≤ length rest → EntryRefusal cs rest e → ReadRefusal bs e
refusal bs cs rest NoMemory f g h b = tt
refusal bs cs rest (Refused e) f g h b = grind (arith, fitting bs f, walked_fuel g.fuel (length cs) rest h g.enough)

pub finish : (bs : List ℕ) (cs : List (Option Command)) (rest : List ℕ) → Fitting bs → Going bs cs rest → length rest ≡ 0 → ReadTable bs cs
finish bs cs [] f g h = (g.items, record { reads = grind (arith, fitting bs f, walked_none g.fuel (length cs), append-nil); table = g.table })
finish bs cs (b ∷ rest) f g h = absurd (omega arith)

-- no bytes, and too many, are refused by their length
pub empty : (bs : List ℕ) → length bs ≡ 0 → reading bs ≡ Err (ProgramLength, 0)
empty bs e = rw e refl

pub long : (bs : List ℕ) → 1024 < length bs → reading bs ≡ Err (ProgramLength, 0)
long bs h = grind (arith, nat_tests)

-- at the start nothing is read, and all bytes are left
pub start : (bs : List ℕ) → Going bs [] bs
start bs = record { items = []; table = refl; parts = omega arith; fuel = length bs; enough = omega arith; reads = sym (prefixed_none (walked (length bs) 0 bs)) }

-- what was read is a read program
pub made : (bs : List ℕ) (cs : List (Option Command)) → ReadTable bs cs → ∥ IsRead cs ∥₁
made bs cs t = ∣ record { bytes = bs; items = t.0; program = t.1 } ∣₁

pub read_laws : (bs : List ℕ) → ReadLaws bs
read_laws bs = record {
  empty = empty bs;
  long = long bs;
  start = start bs;
  step = step bs;
  shorter = shorter;
  refusal = refusal bs;
  finish = finish bs;
  made = made bs;
}

-- what reading goes by, but for the step and the end
pub ruleset read_steps = (empty, long, start, shorter, refusal, finish)
