use Rattle.tasks.proofs.Steps.{machine_laws}
use Rattle.tasks.proofs.machine.machine_laws.Goals as goal

pub returns : goal.returns
returns g c =
    let d = c.args.d.now in
    let t = c.args.t.now in
    machine_laws (g.met.D.Domain.lawful d).laws (g.T.Task.begin t) (g.T.Task.words t) (g.T.Task.orders t) (g.met.T.Task.allowed t) c.args.limit
