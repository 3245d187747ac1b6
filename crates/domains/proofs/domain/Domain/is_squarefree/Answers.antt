use Rattle.std.proofs.Common.{rules}
use Rattle.domains.proofs.Openings.{modulus_decides}
use Rattle.domains.proofs.domain.Domain.is_squarefree.Goals as goal

pub returns : goal.returns
returns g c = let decides = modulus_decides (g.met.Self.Domain.lawful c.args.self.now) c.args.w c.modulus.result c.is_some.result in search (rules, decides)
