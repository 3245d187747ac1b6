use Rattle.std.proofs.Common.{◌==◌, sym, ◌∙◌, subst, rules, arith}
use Rattle.algebra.specs.Divisibility.{IsUnit}
use Rattle.domains.specs.Answers.{Decides}
use Rattle.domains.proofs.Decisions.{decides_equal}
use Rattle.polynomials.proofs.Ring.{polynomial_ring}
use Rattle.polynomials.proofs.Units.{unit_not_zero}
use Rattle.byte_polys.specs.ByteField.{field, polynomial_of}
use Rattle.byte_polys.specs.Bytes.{bytes_zero}
use Rattle.byte_polys.specs.Instance.{modulo}
use Rattle.byte_polys.specs.LegalWords.{top_unit, unit_top}
use Rattle.byte_polys.specs.SamePrime.{below_same}
use Rattle.byte_polys.proofs.squarefree.BytePolysPolynomials.is_unit.Goals as goal

pub returns-in-Some : goal.returns-in-Some
returns-in-Some c =
    let d = c.args.self.now in
    let L = modulo d.p d.prime in
    let a = c.own.result in
    let below = below_same a.coefficients c.own.ensures.p a.below in
    let top = c.in-Some.ensures in
    let value = c.own.ensures.value in
    let decided : Decides (c.in-Some.n == 0) (IsUnit (polynomial_ring (field c.args.self.now.p c.args.self.now.prime)) (polynomial_of c.args.self.now.p c.args.self.now.prime (c.args.a.p == c.args.self.now.p) c.args.a.coefficients)) =
    decides_equal c.in-Some.n 0 _
    (λ e. subst (IsUnit (polynomial_ring (field d.p d.prime))) value (top_unit L a.coefficients below c.in-Some.n top e))
    (λ u. unit_top L a.coefficients below c.in-Some.n top (subst (IsUnit (polynomial_ring (field d.p d.prime))) (sym value) u)) in
    search rules

pub returns-in-None : goal.returns-in-None
returns-in-None c =
    let d = c.args.self.now in
    λ u. unit_not_zero (field d.p d.prime) _ u (sym c.own.ensures.value ∙ bytes_zero (modulo d.p d.prime) c.own.result.coefficients (λ i. c.in-None.ensures i (omega arith)))
