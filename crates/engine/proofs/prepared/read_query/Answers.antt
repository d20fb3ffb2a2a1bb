use Rattle.engine.proofs.Preparation.{no_query}
use Rattle.engine.proofs.prepared.read_query.Goals as goal

pub returns-clause-refused : goal.returns-clause-refused
returns-clause-refused c =
    let found = c.in_ok-statement.ensures.found in
    no_query c.args.text.now c.in_ok-statement.statement found.2 c.in_ok-statement.ensures.only c.in_ok-statement.ensures.late c.query_of.result c.query_of.ensures.refused
