use Rattle.domains.proofs.Inversion.{euclid_laws}
use Rattle.domains.proofs.gcd.euclid_laws.Goals as goal

pub returns : goal.returns
returns g c = euclid_laws (g.met.D.Domain.lawful c.args.d.now) c.args.m c.args.a
