use Rattle.std.proofs.Common.{rules, sym, ◌∙◌, tests}
use Rattle.tasks.proofs.Lasts.{last_found}
use Rattle.tasks.proofs.table.Table.last_place.Goals as goal

pub returns : goal.returns
returns c =
    last_found c.args.self.now c.rposition.result c.rposition.ensures.ran (c.iter.ensures.rest ∙ c.deref.ensures.value ∙ c.self.view_is) (search rules) (λ x b q k. search (rules, tests)) ∙ sym c.unwrap_or.ensures
