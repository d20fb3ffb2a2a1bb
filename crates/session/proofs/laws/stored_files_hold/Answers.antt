use Rattle.session.proofs.Standing.{held_if_stored}
use Rattle.session.proofs.StoredFiles.{stored_if_held}
use Rattle.session.proofs.laws.stored_files_hold.Goals as goal

pub returns-clause-held : goal.returns-clause-held
returns-clause-held c = held_if_stored

pub returns-clause-stored : goal.returns-clause-stored
returns-clause-stored c = stored_if_held
