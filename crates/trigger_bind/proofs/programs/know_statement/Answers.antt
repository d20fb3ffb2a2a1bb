use Rattle.trigger_bind.proofs.Bodies.{of_change, of_query}
use Rattle.catalog.specs.Listed.{listed_in}
use Rattle.trigger_bind.proofs.programs.know_statement.Goals as goal

pub returns-in-Change-clause-known : goal.returns-in-Change-clause-known
returns-in-Change-clause-known c = of_change (listed_in c.args.catalog.now) c.args.outer.now c.args.statement.now c.in-Change.change c.know_beside.result c.in-Change.is c.know_beside.ensures.known

pub returns-in-Select-clause-known : goal.returns-in-Select-clause-known
returns-in-Select-clause-known c = of_query (listed_in c.args.catalog.now) c.args.outer.now c.args.statement.now c.in-Select.query c.know_query.result c.in-Select.is c.know_query.ensures.known
