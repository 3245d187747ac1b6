use Rattle.std.proofs.Common.{◌≡◌, ◌≢◌, ◌+◌, ◌≤◌, ◌<◌, ℕ, List, Option, None, Some, MatchOption, slice_index, length, rules, arith}
use Rattle.byte_polys.specs.Steps.{Top, ZeroFrom}
use Rattle.byte_polys.proofs.Zeros.{zero_on}
use Rattle.byte_polys.proofs.value.BytePoly.degree.Goals as goal

-- the last of eight coefficients that is not 0 is the highest
top_found : (r : Option ℕ) (cs : List ℕ) → length cs ≡ 8
    → MatchOption r ((i : ℕ) → i < 8 → slice_index cs i ≡ 0) (λ n. (n < 8) × (slice_index cs n ≢ 0) × ((i : ℕ) → n + 1 ≤ i → i < 8 → slice_index cs i ≡ 0))
    → MatchOption r (ZeroFrom 0 cs) (λ n. Top cs n)
top_found None cs e found = zero_on cs 8 0 e (λ i l u. found i u)
top_found (Some n) cs e found = record { short = found.0; some = found.1; above = zero_on cs 8 (n + 1) e found.2 }

pub returns : goal.returns
returns c =
    let eight : length c.args.self.coefficients ≡ 8 = omega arith in
    let found : MatchOption c.rposition.result ((i : ℕ) → i < 8 → slice_index c.args.self.coefficients i ≡ 0) (λ n. (n < 8) × (slice_index c.args.self.coefficients n ≢ 0) × ((i : ℕ) → n + 1 ≤ i → i < 8 → slice_index c.args.self.coefficients i ≡ 0)) = search rules in
    top_found _ _ eight found
