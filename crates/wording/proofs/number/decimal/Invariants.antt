use Rattle.std.proofs.Common.{◌≡◌, true, take}
use Rattle.wording.specs.Decimal.{all_digits, positional, fitting}
use Rattle.wording.proofs.number.decimal.Given as goal

-- the bytes so far are digits, and the value is theirs
abbrev pub invariant-loop-b : goal.invariant-loop-b
invariant-loop-b l = (all_digits (take l.b-index l.text) ≡ true) × (l.value ≡ fitting (positional (take l.b-index l.text)))
