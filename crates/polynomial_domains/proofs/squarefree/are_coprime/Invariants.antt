use Rattle.algebra.specs.Weight.{weight}
use Rattle.algebra.proofs.CommonDivisors.{SameDivisors}
use Rattle.polynomials.proofs.Ring.{polynomial_ring}
use Rattle.polynomials.proofs.Euclidean.{polynomials}
use Rattle.polynomial_domains.proofs.squarefree.are_coprime.Given as goal

-- two neighbours of the chain have the same common divisors as a and b
abbrev pub invariant-loop-next : goal.invariant-loop-next
invariant-loop-next g l =
    let P = g.P.Polynomials in
    let of = P.stands_for l.ring in
    SameDivisors (polynomial_ring (P.scalars l.ring).field) (of l.fn.a) (of l.fn.b) (of l.last) (of l.next)

abbrev pub decreases-loop-next : goal.decreases-loop-next
decreases-loop-next g l = weight (polynomials (g.P.Polynomials.scalars l.ring).field) (g.P.Polynomials.stands_for l.ring l.next)
