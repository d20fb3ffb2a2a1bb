use Rattle.engine.proofs.OneView.{held_once}
use Rattle.engine.proofs.laws.files_hold_one_database.Goals as goal

pub returns : goal.returns
returns c = held_once c.pages_store_one_database.ensures
