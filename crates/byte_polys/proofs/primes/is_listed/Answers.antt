use Rattle.std.proofs.Common.{◌≡◌, eqb, sym, ◌∙◌, subst}
use Rattle.std.specs.List.{IsAnyAnswer}
use Rattle.byte_polys.specs.Listed.{listed_same, listed_low, listed_high}
use Rattle.byte_polys.proofs.ListedPrimes.{contains_listed}
use Rattle.byte_polys.proofs.primes.is_listed.Goals as goal

pub returns : goal.returns
returns c =
    let p = c.args.p in
    let r = c.contains.result in
    let found = contains_listed p r (subst (λ qs. IsAnyAnswer (λ y t. eqb y p ≡ t) qs r) c.table.ensures c.contains.ensures.cases) in
    record { listed = found; primes = found ∙ listed_same p; range = λ t. (listed_low p (sym found ∙ t), listed_high p (sym found ∙ t)) }
