-- What holds of the machine, for every domain, task and limit. Assumes nothing.
use Rattle.std.specs.Prelude.{◌≡◌, ℕ, true, length, None}
use Rattle.algebra.specs.Divisibility.{Divides, Irreducible}
use Rattle.domains.specs.Meaning.{Meaning}
use Rattle.tasks.specs.Machine.{State, Step, Run, reduced}
use Rattle.tasks.specs.declared.command.Command.{Command}

module _ (M : Meaning) (begin : ℕ) (words : ℕ → ℕ) (orders : ℕ → Command) (limit : ℕ) where
  pub record MachineLaws : Type 0 where
    -- a state has at most one step modulo a legal m
    pub step_unique : (m : M.Element) → M.legal m ≡ true → (s t u : State) → Step M begin words orders limit m s t → Step M begin words orders limit m s u → t ≡ u
    -- modulo a legal irreducible an open state has a step
    pub step_exists : (g : M.Element) → M.legal g ≡ true → Irreducible M.euclidean.ring g → (s : State) → s.end ≡ None → (t : State) × Step M begin words orders limit g s t
    -- a step modulo m, reduced by a legal divisor g of m, is the step modulo g
    pub step_reduced : (m g : M.Element) → M.legal m ≡ true → M.legal g ≡ true → Divides M.euclidean.ring g m → (s t : State) → length s.cells ≡ 64 → Step M begin words orders limit m s t → Step M begin words orders limit g (reduced M g s) (reduced M g t)
    -- a step keeps 64 cells
    pub step_cells : (m : M.Element) (s t : State) → Step M begin words orders limit m s t → length s.cells ≡ 64 → length t.cells ≡ 64
    -- after n steps the machine is in one state
    pub run_unique : (m : M.Element) → M.legal m ≡ true → (n : ℕ) (s t : State) → Run M begin words orders limit m n s → Run M begin words orders limit m n t → s ≡ t
    -- the start reduced by a legal divisor of m is the start modulo that divisor, and so is every run
    pub run_reduced : (m g : M.Element) → M.legal m ≡ true → M.legal g ≡ true → Divides M.euclidean.ring g m → (n : ℕ) (s : State) → Run M begin words orders limit m n s → Run M begin words orders limit g n (reduced M g s)
