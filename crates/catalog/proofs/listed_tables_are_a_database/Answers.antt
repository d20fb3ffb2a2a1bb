use Rattle.catalog.proofs.NamedDatabases.{listed_database, listed_in_order, listed_names}
use Rattle.catalog.proofs.listed_tables_are_a_database.Goals as goal

pub returns-clause-exists : goal.returns-clause-exists
returns-clause-exists c = listed_database

pub returns-clause-names : goal.returns-clause-names
returns-clause-names c = listed_names

pub returns-clause-in_order : goal.returns-clause-in_order
returns-clause-in_order c = listed_in_order
