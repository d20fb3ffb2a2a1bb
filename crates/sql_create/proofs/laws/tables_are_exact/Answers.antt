use Rattle.sql_create.proofs.IndexLaws.{exact_index}
use Rattle.sql_create.proofs.TableLaws.{exact_table}
use Rattle.sql_create.proofs.laws.tables_are_exact.Goals as goal

pub returns-clause-tables : goal.returns-clause-tables
returns-clause-tables c = exact_table.exact

pub returns-clause-indexes : goal.returns-clause-indexes
returns-clause-indexes c = exact_index.exact
