-- Steps and runs of the machine: at most one state after as many steps, and a row of the machine modulo m, reduced by a
-- divisor of m, is the machine modulo that divisor. Assumes nothing.
use Rattle.std.proofs.Common.{◌≡◌, ℕ, zero, true, List, length, set, None, sym, refl, ap, ◌∙◌, subst, inl, inr, length-set}
use Rattle.std.specs.List.{range_with_len}
use Rattle.std.proofs.lemmas.Simd.{map-map}
use Rattle.std.proofs.lemmas.List.FromFn.{length-map-range_with_len}
use mathlib.Core.Path.{fun_ext}
use Rattle.algebra.specs.Divisibility.{Divides, Irreducible}
use Rattle.algebra.proofs.Congruence.{congruent_self}
use Rattle.domains.specs.Meaning.{Meaning, Laws, residue}
use Rattle.tasks.specs.Commands.{Allowed}
use Rattle.tasks.specs.Laws.{MachineLaws}
use Rattle.tasks.specs.Machine.{State, Effect, moves, ends, Does, after, Step, initial, Run, started, stepped, reduced, listed}
use Rattle.tasks.specs.declared.command.Command.{Command}
use Rattle.tasks.specs.declared.command.Command.TheVariants.{Set, Copy, Add, Subtract, Multiply, Invert, Test, Go, End}
use Rattle.tasks.proofs.Effects.{does_unique, does_something, does_reduced, down_residue, reduced_effect}

module _ {M : Meaning} (L : Laws M) (begin : ℕ) (words : ℕ → ℕ) (orders : ℕ → Command) (allowed : (place : ℕ) → Allowed (orders place)) (limit : ℕ) where
  pub step_unique : (m : M.Element) → M.legal m ≡ true → (s t u : State) → Step M begin words orders limit m s t → Step M begin words orders limit m s u → t ≡ u
  step_unique m legal s t u p q =
      p.result ∙ ap (after limit s) (does_unique L legal (orders s.place) s.cells p.effect q.effect p.does q.does) ∙ sym q.result

  pub step_exists : (g : M.Element) → M.legal g ≡ true → Irreducible M.euclidean.ring g → (s : State) → s.end ≡ None → (t : State) × Step M begin words orders limit g s t
  step_exists g legal i s o =
      let d = does_something L legal i (orders s.place) s.cells in
      (after limit s d.0, record { open_state = o; effect = d.0; does = d.1; result = refl })

  -- the state after a reduced effect is the reduced state after the effect
  after_reduced : (g : M.Element) (s : State) (e : Effect) → reduced M g (after limit s e) ≡ after limit (reduced M g s) (reduced_effect M g e)
  after_reduced g s (moves n cs) = refl
  after_reduced g s (ends c) = refl

  pub step_reduced : (m g : M.Element) → M.legal m ≡ true → M.legal g ≡ true → Divides M.euclidean.ring g m → (s t : State) → length s.cells ≡ 64 → Step M begin words orders limit m s t → Step M begin words orders limit g (reduced M g s) (reduced M g t)
  step_reduced m g lm lg d s t full p = record {
    open_state = p.open_state;
    effect = reduced_effect M g p.effect;
    does = does_reduced L lm lg d s.cells full (orders s.place) p.effect (allowed s.place) p.does;
    result = ap (reduced M g) p.result ∙ after_reduced g s p.effect;
  }

  -- how many cells there are after a command
  written : (k : ℕ) (cs : List ℕ) (d x : ℕ) → length cs ≡ k → length (set cs d x) ≡ k
  written k cs d x h = length-set cs d x ∙ h

  cells_of : Effect → List ℕ → List ℕ
  cells_of (moves n cs) old = cs
  cells_of (ends c) old = old

  effect_cells : (m : M.Element) (c : Command) (cs : List ℕ) (e : Effect) (k : ℕ) → Does M m c cs e → length cs ≡ k → length (cells_of e cs) ≡ k
  unfolding cells_of
  effect_cells m (Set d n w) cs e k p h = ap (λ x. length (cells_of x cs)) p ∙ written k cs d _ h
  effect_cells m (Copy d a n) cs e k p h = ap (λ x. length (cells_of x cs)) p ∙ written k cs d _ h
  effect_cells m (Add d a b n) cs e k p h = ap (λ x. length (cells_of x cs)) p ∙ written k cs d _ h
  effect_cells m (Subtract d a b n) cs e k p h = ap (λ x. length (cells_of x cs)) p ∙ written k cs d _ h
  effect_cells m (Multiply d a b n) cs e k p h = ap (λ x. length (cells_of x cs)) p ∙ written k cs d _ h
  effect_cells m (Invert d a n) cs e k (inl p) h = ap (λ x. length (cells_of x cs)) p.1 ∙ h
  effect_cells m (Invert d a n) cs e k (inr p) h = ap (λ x. length (cells_of x cs)) p.2 ∙ written k cs d _ h
  effect_cells m (Test a z o) cs e k (inl p) h = ap (λ x. length (cells_of x cs)) p.1 ∙ h
  effect_cells m (Test a z o) cs e k (inr p) h = ap (λ x. length (cells_of x cs)) p.2 ∙ h
  effect_cells m (Go n) cs e k p h = ap (λ x. length (cells_of x cs)) p ∙ h
  effect_cells m (End c) cs e k p h = ap (λ x. length (cells_of x cs)) p ∙ h

  after_cells : (s : State) (e : Effect) → (after limit s e).cells ≡ cells_of e s.cells
  unfolding cells_of
  after_cells s (moves n cs) = refl
  after_cells s (ends c) = refl

  pub step_cells : (m : M.Element) (s t : State) → Step M begin words orders limit m s t → length s.cells ≡ 64 → length t.cells ≡ 64
  step_cells m s t p h =
      ap (λ (x : State). length x.cells) p.result ∙ ap length (after_cells s p.effect) ∙ effect_cells m (orders s.place) s.cells p.effect 64 p.does h

  -- every run has 64 cells
  run_cells : {m : M.Element} {n : ℕ} {s : State} → Run M begin words orders limit m n s → length s.cells ≡ 64
  run_cells {m} started = length-map-range_with_len (λ i. residue M m (M.element (words i))) 0 64
  run_cells (stepped r p) = step_cells _ _ _ p (run_cells r)

  runs_equal : {m : M.Element} (legal : M.legal m ≡ true) {n : ℕ} {s t : State} → Run M begin words orders limit m n s → Run M begin words orders limit m n t → s ≡ t
  runs_equal legal started started = refl
  runs_equal {m} legal (stepped {s = s} {t = t} p a) (stepped {s = u} {t = v} q b) =
      step_unique m legal u t v (subst (λ x. Step M begin words orders limit m x t) (runs_equal legal p q) a) b

  -- the start, reduced by a divisor of the modulus
  initial_reduced : (m g : M.Element) → M.legal m ≡ true → M.legal g ≡ true → Divides M.euclidean.ring g m → reduced M g (initial M begin words orders limit m) ≡ initial M begin words orders limit g
  initial_reduced m g lm lg d =
      ap (λ cs. record { place = begin; cells = cs; steps = 0; end = None })
      (map-map (λ w. residue M g (M.element w)) (λ i. residue M m (M.element (words i))) (range_with_len 0 64) ∙ ap (listed 64) (fun_ext λ i. down_residue L lm lg d (M.element (words i)) (M.element (words i)) (congruent_self M.euclidean.ring (M.element (words i)))))

  runs_reduced : {m g : M.Element} → M.legal m ≡ true → M.legal g ≡ true → Divides M.euclidean.ring g m → {n : ℕ} {s : State} → Run M begin words orders limit m n s → Run M begin words orders limit g n (reduced M g s)
  runs_reduced {m} {g} lm lg d started = subst (Run M begin words orders limit g zero) (sym (initial_reduced m g lm lg d)) started
  runs_reduced {m} {g} lm lg d (stepped {s = s} {t = t} r p) = stepped (runs_reduced lm lg d r) (step_reduced m g lm lg d s t (run_cells r) p)

  -- all that is said of the machine holds
  pub machine_laws : MachineLaws M begin words orders limit
  machine_laws = record {
    step_unique = step_unique;
    step_exists = step_exists;
    step_reduced = step_reduced;
    step_cells = step_cells;
    run_unique = λ m legal n s t p q. runs_equal legal p q;
    run_reduced = λ m g lm lg d n s r. runs_reduced lm lg d r;
  }
