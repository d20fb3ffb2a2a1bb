use Rattle.sql_query.proofs.ChangeLaws.{exact_delete, exact_update}
use Rattle.sql_query.proofs.InsertLaws.{exact_change, exact_insert}
use Rattle.sql_query.proofs.laws.changes_are_exact.Goals as goal

pub returns-clause-inserts : goal.returns-clause-inserts
returns-clause-inserts c = exact_insert.exact

pub returns-clause-deletes : goal.returns-clause-deletes
returns-clause-deletes c = exact_delete.exact

pub returns-clause-updates : goal.returns-clause-updates
returns-clause-updates c = exact_update.exact

pub returns-clause-all : goal.returns-clause-all
returns-clause-all c = exact_change.exact
