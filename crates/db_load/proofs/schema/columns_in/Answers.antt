use Rattle.std.proofs.Common.{sym, ◌∙◌}
use Rattle.db_pages.proofs.OneDatabase.{columns_are}
use Rattle.db_load.proofs.SchemaTables.{columns_refused}
use Rattle.db_load.proofs.schema.columns_in.Goals as goal

pub returns-in-Ok-clause-tells : goal.returns-in-Ok-clause-tells
returns-in-Ok-clause-tells c = λ columns once same. columns_are c.in-Ok.columns columns (c.in-Ok.ensures.columns ∙ sym same)

pub returns-in-Err-clause-tells : goal.returns-in-Err-clause-tells
returns-in-Err-clause-tells c = λ columns once same. c.outside.ensures.memory (columns_refused c.args.definition.now.columns columns c.in-Err.fault c.in-Err.ensures.refused once same)
