use Rattle.domains.proofs.Splitting.{split_laws}
use Rattle.domains.proofs.split.split_laws.Goals as goal

pub returns : goal.returns
returns g c = split_laws (g.met.D.Domain.lawful c.args.d.now) c.args.m c.args.g
