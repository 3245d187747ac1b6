use Rattle.std.proofs.Common.{refl, sym, subst, eq-eqb, rules}
use Rattle.algebra.specs.Divisibility.{Squarefree}
use Rattle.byte_polys.specs.ByteField.{byte_polys}
use Rattle.byte_polys.specs.SamePrime.{below_same}
use Rattle.byte_polys.proofs.Owned.{own_element}
use Rattle.byte_polys.proofs.field.BytePolys.modulus_of.Goals as goal

pub returns-then-not-is_squarefree : goal.returns-then-not-is_squarefree
unfolding byte_polys
returns-then-not-is_squarefree c =
    let d = c.args.self in
    let found = c.in_ok-a.ensures in
    let own = own_element d.p d.prime c.in_ok-a.a.coefficients (eq-eqb _ _ found.0) found.1 in
    λ s. let squarefree = subst (Squarefree (byte_polys d.p d.prime).euclidean.ring) (sym own) s.squarefree in search (rules, c.if-not-is_squarefree.ensures)

pub invariant_of-result : goal.invariant_of-result
unfolding byte_polys
invariant_of-result c =
    let d = c.args.self in
    let a = c.in_ok-a.a in
    let found = c.in_ok-a.ensures in
    let monic = found.2 in
    let free = subst (Squarefree (byte_polys d.p d.prime).euclidean.ring) (own_element d.p d.prime c.in_ok-a.a.coefficients (eq-eqb _ _ found.0) refl) c.if-not-is_squarefree.ensures in
    record {
      below = below_same a.coefficients found.0 a.below;
      prime = d.prime;
      low = monic.low;
      high = monic.high;
      one = monic.one;
      above = monic.above;
      free = λ g q n. n (free g q);
    }

pub returns : goal.returns
unfolding byte_polys
returns c =
    let d = c.args.self in
    let found = c.in_ok-a.ensures in
    (refl, found.1, record { legal = found.3; squarefree = subst (Squarefree (byte_polys d.p d.prime).euclidean.ring) (own_element d.p d.prime c.in_ok-a.a.coefficients (eq-eqb _ _ found.0) found.1) c.if-not-is_squarefree.ensures })
