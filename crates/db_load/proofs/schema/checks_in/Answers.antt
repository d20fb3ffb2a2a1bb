use Rattle.query_names.specs.Creating.{checks_known}
use Rattle.db_load.proofs.SchemaTables.{checks_are, checks_refused}
use Rattle.db_load.proofs.schema.checks_in.Goals as goal

pub returns-in-Ok-clause-tells : goal.returns-in-Ok-clause-tells
returns-in-Ok-clause-tells c = λ checks known. checks_are (checks_known c.args.definition.now c.args.columns.now) c.in-Ok.checks checks c.in-Ok.ensures.names known

pub returns-in-Err-clause-tells : goal.returns-in-Err-clause-tells
returns-in-Err-clause-tells c = λ checks known.
    c.outside.ensures.memory (checks_refused (checks_known c.args.definition.now c.args.columns.now) checks c.in-Err.fault c.in-Err.ensures.names known)
