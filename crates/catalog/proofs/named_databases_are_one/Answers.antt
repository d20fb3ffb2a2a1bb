use Rattle.catalog.proofs.NamedDatabases.{one_database, keeps_named}
use Rattle.catalog.proofs.named_databases_are_one.Goals as goal

pub returns-clause-one : goal.returns-clause-one
returns-clause-one c = one_database

pub returns-clause-named : goal.returns-clause-named
returns-clause-named c = keeps_named
