use Rattle.db_pages.proofs.Standing.{stand_if_stored}
use Rattle.db_pages.proofs.laws.stored_pages_stand.Goals as goal

pub returns : goal.returns
returns c = stand_if_stored c.triggers_are_created_as_defined.ensures.knows
