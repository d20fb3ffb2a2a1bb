use Rattle.db_pages.proofs.StoredPages.{stored_if_standing}
use Rattle.db_pages.proofs.laws.standing_pages_are_stored.Goals as goal

pub returns : goal.returns
returns c = stored_if_standing c.triggers_are_created_as_defined.ensures.knows
