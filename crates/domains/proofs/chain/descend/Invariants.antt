use Rattle.algebra.specs.Weight.{weight}
use Rattle.domains.specs.Chain.{Chained}
use Rattle.domains.proofs.chain.descend.Given as goal

abbrev pub invariant-loop-a : goal.invariant-loop-a
invariant-loop-a g l = Chained (g.D.Domain.view l.d) l.m l.a l.link

abbrev pub decreases-loop-a : goal.decreases-loop-a
decreases-loop-a g l = let D = g.D.Domain.view l.d in weight D.meaning.euclidean (D.meaning.element (D.word l.link.next))
