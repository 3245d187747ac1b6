use Rattle.std.proofs.Common.{◌≡◌, ℕ, ◌<◌, Bool, true, false, refl, arith}
use Rattle.byte_polys.specs.Listed.{listed, listed_high}
use Rattle.casebook.proofs.domain.byte_polys_over.Goals as goal

-- no number that is past a byte is listed
large_unlisted : (p : ℕ) → ¬ (p < 256) → listed p ≡ false
large_unlisted p h = go (listed p) refl
  where
    go : (b : Bool) → listed p ≡ b → listed p ≡ false
    go true e = absurd (h (omega (arith, listed_high p e)))
    go false e = e

pub returns-in-Err : goal.returns-in-Err
returns-in-Err c = (c.into.ensures.0, c.into.ensures.1, large_unlisted c.args.p c.in-Err.ensures)
