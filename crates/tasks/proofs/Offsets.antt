-- Items by their offsets, and checking them.
use Rattle.std.proofs.Common.{◌≡◌, ℕ, zero, suc, ◌+◌, ◌-◌, ◌≤◌, true, false, ◌||◌, eqb, List, [], ◌∷◌, ◌++◌, length, Some, None, Ok, Result, sym, refl, ap, ◌∙◌, subst, inl, inr, zero-add, arith, get_or-append-add}
use Rattle.std.specs.Result.{result_and}
use Rattle.std.proofs.lemmas.Bool.Decides.{nat_tests, eqb_tells}
use Rattle.domains.specs.declared.refusal.Reason.{Reason}
use Rattle.tasks.specs.CheckLaws.{command_at}
use Rattle.tasks.specs.Grammar.{At, Closed, JumpsTo}
use Rattle.tasks.specs.Items.{Item, placed, size}
use Rattle.tasks.specs.Reading.{ending, jumps, laid, landing, starts_at, tabled}
use Rattle.tasks.specs.Tables.{filled, length_part, part, size_some}

-- an item stands at an offset exactly where the test says so
pub at_starts : (p : ℕ) (is : List Item) (k : ℕ) (i : Item) → At is k i → starts_at (laid p is) (p + k) ≡ true
at_starts p [] k i a = absurd a
at_starts p (j ∷ is) k i (inl a) = grind (arith, nat_tests)
at_starts p (j ∷ is) k i (inr a) = grind (arith, nat_tests, at_starts (p + size j) is a.0 i a.2)

pub starts_at_an_item : (p : ℕ) (is : List Item) (z : ℕ) → starts_at (laid p is) z ≡ true → (k : ℕ) × (z ≡ p + k) × ((i : Item) × At is k i)
starts_at_an_item p [] z h = cc
starts_at_an_item p (j ∷ is) z h =
    elim (eqb_tells p z) [
      | inl t ↦ let s = t.1 in (0, omega arith, (j, inl (refl, refl)))
      | inr t ↦ let r = starts_at_an_item (p + size j) is z (by_test t.0 h) in let s = r.1 in (size j + r.0, omega arith, (r.2.0, inr (r.0, refl, r.2.1)))
    ]
  where
    by_test : eqb p z ≡ false → (eqb p z || starts_at (laid (p + size j) is) z) ≡ true → starts_at (laid (p + size j) is) z ≡ true
    by_test e h = rw e at h

-- where all of the items land
abbrev Landing : List (ℕ × Item) → List Item → Type 0
Landing all is = (k : ℕ) (i : Item) → At is k i → landing all i ≡ true

pub jumps_land : (all : List (ℕ × Item)) (p : ℕ) (is : List Item) → jumps all (laid p is) ≡ Ok tt → Landing all is
jumps_land all p [] h k i a = absurd a
jumps_land all p (j ∷ is) h k i (inl a) = grind arith
jumps_land all p (j ∷ is) h k i (inr a) = grind (arith, jumps_land all (p + size j) is)

pub land_jumps : (all : List (ℕ × Item)) (p : ℕ) (is : List Item) → Landing all is → jumps all (laid p is) ≡ Ok tt
land_jumps all p [] h = refl
land_jumps all p (j ∷ is) h = rw (h 0 j (inl (refl, refl))) (land_jumps all (p + size j) is (λ k i a. h (size j + k) i (inr (k, refl, a))))

landed : (is : List Item) (z : ℕ) → starts_at (laid 0 is) z ≡ true → (j : Item) × At is z j
landed is z h =
    let r = starts_at_an_item 0 is z h in
    let s : r.0 ≡ z = let q = r.1 in omega arith in
    (r.2.0, subst (λ (n : ℕ). At is n r.2.0) s r.2.1)

-- an item that lands jumps only to where items start
jump_starts : (all : List (ℕ × Item)) (i : Item) → landing all i ≡ true → (t : ℕ) → JumpsTo i t → starts_at all t ≡ true
jump_starts all i h t e = grind arith

-- an item lands where all that it jumps to are offsets
pub landing_jump : (is : List Item) (i : Item) → landing (laid 0 is) i ≡ true → (t : ℕ) → JumpsTo i t → (j : Item) × At is t j
landing_jump is i h t e = landed is t (jump_starts (laid 0 is) i h t e)

offset_starts : (is : List Item) (z : ℕ) → ((j : Item) × At is z j) → starts_at (laid 0 is) z ≡ true
offset_starts is z a = ap (starts_at (laid 0 is)) (sym (zero-add z)) ∙ at_starts 0 is z a.0 a.1

pub jump_landing : (is : List Item) (i : Item) → ((t : ℕ) → JumpsTo i t → (j : Item) × At is t j) → landing (laid 0 is) i ≡ true
jump_landing is i h = grind (arith, offset_starts)

-- the last item, where there is one
pub ending_closes : (p : ℕ) (i : Item) (is : List Item) → ending (laid p (i ∷ is)) ≡ Ok tt → Closed (i ∷ is)
ending_closes p i [] h = grind arith
ending_closes p i (j ∷ js) h = ending_closes (p + size i) j js h

pub closes_ending : (p : ℕ) (is : List Item) → Closed is → ending (laid p is) ≡ Ok tt
closes_ending p [] h = absurd h
closes_ending p (i ∷ []) h = rw h refl
closes_ending p (i ∷ (j ∷ js)) h = closes_ending (p + size i) (j ∷ js) h

pub both : (a b : Result (Unit {0}) (Reason × ℕ)) → result_and a b ≡ Ok tt → (a ≡ Ok tt) × (b ≡ Ok tt)
both a b h = grind arith

-- the table at an offset, counted from the first item
pub command_there : (p : ℕ) (is : List Item) (k : ℕ) (i : Item) → At is k i → command_at (tabled p is) k ≡ Some (placed (p + k) i)
command_there p [] k i a = absurd a
command_there p (j ∷ is) k i (inl a) = grind arith
command_there p (j ∷ is) k i (inr a) =
    let l = length_part p j in
    let e : k ≡ length (part p j) + a.0 = let z = a.1 in omega arith in
    let f : p + size j + a.0 ≡ p + k = let z = a.1 in omega arith in
    ap (λ (n : ℕ). command_at (part p j ++ tabled (p + size j) is) n) e
    ∙ get_or-append-add (part p j) (tabled (p + size j) is) a.0 None
    ∙ command_there (p + size j) is a.0 i a.2
    ∙ ap (λ (n : ℕ). Some (placed n i)) f

-- where no item stands the table has no command
pub command_nowhere : (p : ℕ) (is : List Item) (k : ℕ) → ((i : Item) → At is k i → ⊥) → command_at (tabled p is) k ≡ None
command_nowhere p [] k h = refl
command_nowhere p (j ∷ is) zero h = absurd (h j (inl (refl, refl)))
command_nowhere p (j ∷ is) (suc k) h =
    let s = size_some j in
    let later : size j - 1 ≤ k → command_at (tabled (p + size j) is) (k - (size j - 1)) ≡ None =
    λ g. command_nowhere (p + size j) is (k - (size j - 1)) (λ i a. h i (inr (k - (size j - 1), omega arith, a))) in
    grind (arith, nat_tests, filled (size j - 1) k (tabled (p + size j) is), later)
