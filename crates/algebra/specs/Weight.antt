-- What falls from division to division in a chain of divisions. Assumes nothing.
use Rattle.std.specs.Prelude.{ℕ, suc}
use Rattle.algebra.specs.Euclidean.{Euclidean}

-- 0 where P holds, else one more than n
abbrev pub weigh : {P : Type 0} → Dec P → ℕ → ℕ
weigh (yes p) n = 0
weigh (no k) n = suc n

-- the weight of an element: 0 for 0, else one more than its size
abbrev pub weight : {R : Type 0} → Euclidean R → R → ℕ
weight E a = weigh (E.equal a E.ring.zero) (E.size a)
