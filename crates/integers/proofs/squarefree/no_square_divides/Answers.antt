use Rattle.std.proofs.Common.{◌*◌, ◌<◌, ◌≤◌, mul-le-mul, arith, rules}
use Rattle.integers.proofs.DividingOut.{next, left_below, found_twice, decided}
use Rattle.integers.proofs.squarefree.no_square_divides.Goals as goal
use Rattle.integers.proofs.squarefree.no_square_divides.Goals.{else-loop-d-test, then-loop-d-test+then-d-rest}

-- a turn divides d out
pub loop-d-preserved : goal.loop-d-preserved
loop-d-preserved c =
    let left = c.in-Some.ensures in
    (omega (arith, left_below left, c.loop-d.invariant.0), next c.loop-d.invariant.1 c.loop-d.auto.d left)

-- d divides the rest twice
pub returns-in-None : goal.returns-in-None
returns-in-None c = let found = found_twice c.loop-d.invariant.1 c.loop-d.auto.d in search (rules, found)

-- the cube of d has passed the rest: at the end of the range it has passed 2^31
pub returns : goal.returns
returns c =
    let cube : c.loop-d.rest < c.loop-d.d * c.loop-d.d * c.loop-d.d =
    elim c.loop-d-test.branch [
      | else-loop-d-test w ↦
          let h : 1291 ≤ c.loop-d.d = omega arith in
          omega (arith, c.loop-d.invariant.0, mul-le-mul (mul-le-mul h h) h)
      | then-loop-d-test+then-d-rest w ↦ omega arith
    ] in
    let last = decided c.loop-d.invariant.1 cube in
    search (rules, last)
