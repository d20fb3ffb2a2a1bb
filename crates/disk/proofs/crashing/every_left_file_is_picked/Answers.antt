use Rattle.disk.proofs.Picking.{left_picked, picks_left}
use Rattle.disk.proofs.crashing.every_left_file_is_picked.Goals as goal

pub returns-clause-reached : goal.returns-clause-reached
returns-clause-reached c = left_picked

pub returns-clause-no_other : goal.returns-clause-no_other
returns-clause-no_other c = picks_left
