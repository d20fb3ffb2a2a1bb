use Rattle.db_pages.proofs.OneDatabase.{stored_once}
use Rattle.db_pages.proofs.laws.pages_store_one_database.Goals as goal

pub returns : goal.returns
returns c = stored_once c.one_table_tree.ensures c.one_tree.ensures.one c.bytes_determine_values.ensures
