-- The machine that runs a task modulo m: the field machine where m is an irreducible g, and a row of a case book at the
-- row's own modulus. Assumes nothing.
use Rattle.std.specs.Prelude.{◌≡◌, ℕ, zero, suc, cond, ◌⊎◌, List, map, Some, None, Option, ◌==◌, slice_index, slice_set}
use Rattle.std.specs.List.{range_with_len}
use Rattle.algebra.specs.Divisibility.{Divides}
use Rattle.domains.specs.Answers.{sum, difference, times}
use Rattle.domains.specs.Euclid.{InverseWord}
use Rattle.domains.specs.Meaning.{Meaning, residue}
use Rattle.tasks.specs.declared.command.Command.{Command}
use Rattle.tasks.specs.declared.command.Command.TheVariants.{Set, Copy, Add, Subtract, Multiply, Invert, Test, Go, End}

-- a place, 64 cells with residues as words, how many steps were taken, and the end, if it has come
pub record State : Type 0 where
  pub place : ℕ
  pub cells : List ℕ
  pub steps : ℕ
  pub end : Option ℕ

-- what a command does: it moves to a place with the cells then, or it ends with a code, and place and cells stay
pub data Effect : Type 0 where
  moves : ℕ → List ℕ → Effect
  ends : ℕ → Effect

-- a cell
abbrev pub cell : List ℕ → ℕ → ℕ
cell cs i = slice_index cs i

module _ (M : Meaning) (m : M.Element) where
  -- m divides the cell, or the residue w is its inverse modulo m
  abbrev pub ZeroCell : ℕ → Type 0
  ZeroCell c = Divides M.euclidean.ring m (M.element c)

  abbrev pub InverseOf : ℕ → ℕ → Type 0
  InverseOf c w = InverseWord M m (M.element c) w

  -- What a command does modulo m. All cells are read before one is written. INV and TEST have an effect only where m
  -- divides the cell or the cell has an inverse modulo m.
  abbrev pub Does : Command → List ℕ → Effect → Type 0
  Does (Set d n w) cs e = e ≡ moves n (slice_set cs d (residue M m (M.element w)))
  Does (Copy d a n) cs e = e ≡ moves n (slice_set cs d (cell cs a))
  Does (Add d a b n) cs e = e ≡ moves n (slice_set cs d (residue M m (sum M (cell cs a) (cell cs b))))
  Does (Subtract d a b n) cs e = e ≡ moves n (slice_set cs d (residue M m (difference M (cell cs a) (cell cs b))))
  Does (Multiply d a b n) cs e = e ≡ moves n (slice_set cs d (residue M m (times M (cell cs a) (cell cs b))))
  Does (Invert d a n) cs e = (ZeroCell (cell cs a) × (e ≡ ends 255)) ⊎ ((w : ℕ) × InverseOf (cell cs a) w × (e ≡ moves n (slice_set cs d w)))
  Does (Test a z o) cs e = (ZeroCell (cell cs a) × (e ≡ moves z cs)) ⊎ ((w : ℕ) × InverseOf (cell cs a) w × (e ≡ moves o cs))
  Does (Go n) cs e = e ≡ moves n cs
  Does (End c) cs e = e ≡ ends c

-- the state after an effect: one step more; who moves and has then taken as many steps as the limit, ends with 254
abbrev pub after : ℕ → State → Effect → State
after limit s (moves n cs) = record { place = n; cells = cs; steps = suc s.steps; end = cond (suc s.steps == limit) (Some 254) None }
after limit s (ends c) = record { place = s.place; cells = s.cells; steps = suc s.steps; end = Some c }

-- the words of the first n cells, by their number
abbrev pub listed : ℕ → (ℕ → ℕ) → List ℕ
listed n f = map f (range_with_len 0 n)

-- a task: its start place, start words and commands; and a limit on the steps
module _ (M : Meaning) (begin : ℕ) (words : ℕ → ℕ) (orders : ℕ → Command) (limit : ℕ) (m : M.Element) where
  -- one step of an open state
  pub record Step (s t : State) : Type 0 where
    pub open_state : s.end ≡ None
    pub effect : Effect
    pub does : Does M m (orders s.place) s.cells effect
    pub result : t ≡ after limit s effect

  -- the start: the residues of the start words, no steps and no end
  abbrev pub initial : State
  initial = record { place = begin; cells = listed 64 (λ i. residue M m (M.element (words i))); steps = 0; end = None }

  -- the states after n steps
  pub data Run : ℕ → State → Type 0 where
    started : Run zero initial
    stepped : {n : ℕ} {s t : State} → Run n s → Step s t → Run (suc n) t

-- a state reduced by g: place, steps and end stay, and each cell becomes its residue modulo g
abbrev pub reduced : (M : Meaning) → M.Element → State → State
reduced M g s = record { place = s.place; cells = map (λ w. residue M g (M.element w)) s.cells; steps = s.steps; end = s.end }
