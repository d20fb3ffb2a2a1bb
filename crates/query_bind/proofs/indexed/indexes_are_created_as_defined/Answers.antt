use Rattle.query_bind.proofs.IndexNames.{makes_index, refuses_index}
use Rattle.query_bind.proofs.indexed.indexes_are_created_as_defined.Goals as goal

pub returns-clause-makes : goal.returns-clause-makes
returns-clause-makes c = makes_index c.listed_tables_are_found.ensures.finds c.listed_tables_are_found.ensures.names

pub returns-clause-refuses : goal.returns-clause-refuses
returns-clause-refuses c = refuses_index c.listed_tables_are_found.ensures.finds c.listed_tables_are_found.ensures.names
