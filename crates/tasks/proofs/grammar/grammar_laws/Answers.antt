use Rattle.tasks.specs.Walks.{read_laws}
use Rattle.tasks.proofs.Checks.{check_laws}
use Rattle.tasks.proofs.Fronts.{front_laws}
use Rattle.tasks.proofs.Grammars.{accept_laws, grammar_laws}
use Rattle.tasks.proofs.grammar.grammar_laws.Goals as goal

pub returns : goal.returns
returns c =
    let bytes = c.args.bytes.now in
    record {
      grammar = grammar_laws bytes;
      reading = read_laws bytes;
      front = λ place. front_laws place bytes;
      checking = check_laws;
      accepting = accept_laws bytes;
    }
