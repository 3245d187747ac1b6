use Rattle.std.proofs.Common.{length}
use Rattle.tasks.specs.ReadLaws.{Going}
use Rattle.tasks.proofs.reading.read.Given as goal

abbrev pub invariant-loop-rest : goal.invariant-loop-rest
invariant-loop-rest l = Going l.bytes l.table l.rest

abbrev pub decreases-loop-rest : goal.decreases-loop-rest
decreases-loop-rest l = length l.rest
