use Rattle.engine.proofs.EmptyOpening.{created_hold}
use Rattle.engine.proofs.creating.created_files_hold_nothing.Goals as goal

pub returns : goal.returns
returns c = created_hold
