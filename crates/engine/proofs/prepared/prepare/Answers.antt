use Rattle.engine.proofs.Preparation.{not_prepared}
use Rattle.engine.proofs.prepared.prepare.Goals as goal

pub returns-clause-refused : goal.returns-clause-refused
returns-clause-refused c =
    let found = c.in_ok-statement.ensures.found in
    not_prepared c.args.text.now c.in_ok-statement.statement found.2 c.in_ok-statement.ensures.only c.in_ok-statement.ensures.late c.kept.result c.kept.ensures.refused
