use Rattle.domains.proofs.Openings.{opening_laws}
use Rattle.domains.proofs.opening.opening_laws.Goals as goal

pub returns : goal.returns
returns g c = opening_laws (g.met.D.Domain.lawful c.args.d.now) c.args.w c.args.f
