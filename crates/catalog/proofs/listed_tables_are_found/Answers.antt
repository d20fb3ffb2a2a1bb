use Rattle.catalog.proofs.Found.{finds_listed, names_listed}
use Rattle.catalog.proofs.listed_tables_are_found.Goals as goal

pub returns-clause-finds : goal.returns-clause-finds
returns-clause-finds c = finds_listed

pub returns-clause-names : goal.returns-clause-names
returns-clause-names c = names_listed
