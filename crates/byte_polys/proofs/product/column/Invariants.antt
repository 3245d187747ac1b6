use Rattle.std.proofs.Common.{◌≡◌, ◌*◌, ◌≤◌}
use Rattle.byte_polys.specs.Steps.{products}
use Rattle.byte_polys.proofs.product.column.Given as goal

-- the products up to the i-th have been added, each at most 255·255
abbrev pub invariant-loop-i : goal.invariant-loop-i
invariant-loop-i l = (l.sum ≡ products l.a l.b l.k l.i) × (l.sum ≤ 65025 * l.i)
