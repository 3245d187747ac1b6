use Rattle.domains.proofs.Divisions.{chain_laws}
use Rattle.domains.proofs.chain.chain_laws.Goals as goal

pub returns : goal.returns
returns g c = chain_laws (g.met.D.Domain.lawful c.args.d.now) c.args.m c.args.a
