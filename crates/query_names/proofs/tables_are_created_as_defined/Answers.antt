use Rattle.query_names.proofs.CreatedTables.{keeps_once, makes_by, refuses_by}
use Rattle.query_names.proofs.tables_are_created_as_defined.Goals as goal

pub returns-clause-makes : goal.returns-clause-makes
returns-clause-makes c = makes_by c.listed_tables_are_found.ensures.names

pub returns-clause-refuses : goal.returns-clause-refuses
returns-clause-refuses c = refuses_by c.listed_tables_are_found.ensures.names

pub returns-clause-once : goal.returns-clause-once
returns-clause-once c = keeps_once
