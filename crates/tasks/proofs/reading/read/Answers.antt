use Rattle.std.proofs.Common.{rules}
use Rattle.tasks.specs.Walks.{finish, made, step}
use Rattle.tasks.proofs.reading.read.Goals as goal

pub loop-rest-preserved : goal.loop-rest-preserved
loop-rest-preserved c =
    let h = step _ _ _ _ _ c.loop-rest.invariant (search rules) c.in_ok-rest.ensures in search (rules, h)

pub invariant_of-result : goal.invariant_of-result
invariant_of-result c =
    let h = finish _ _ _ (record { some = search rules; few = search rules }) c.loop-rest.invariant (search rules) in record { short = search (rules, c.loop-rest.invariant.parts); written = made _ _ h }
