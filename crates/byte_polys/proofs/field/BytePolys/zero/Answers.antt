use Rattle.std.proofs.Common.{refl}
use Rattle.byte_polys.specs.ByteField.{byte_polys}
use Rattle.byte_polys.specs.Instance.{modulo}
use Rattle.byte_polys.proofs.Sums.{zeros_number}
use Rattle.byte_polys.proofs.Zeros.{zeros}
use Rattle.byte_polys.proofs.field.BytePolys.zero.Goals as goal

pub returns : goal.returns
unfolding byte_polys
returns c = record { p = refl; word = zeros_number (modulo c.args.self.p c.args.self.prime) _ (zeros 8) }
