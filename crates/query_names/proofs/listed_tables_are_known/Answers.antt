use Rattle.query_names.proofs.KnownTables.{known_by}
use Rattle.query_names.proofs.listed_tables_are_known.Goals as goal

pub returns : goal.returns
returns c = known_by c.listed_tables_are_found.ensures.finds
