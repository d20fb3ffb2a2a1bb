use Rattle.db_load.proofs.HeaderFaults.{header_fault}
use Rattle.db_load.proofs.first.header_of.Goals as goal

pub returns-clause-not_disk : goal.returns-clause-not_disk
returns-clause-not_disk c = header_fault c.args.page.now c.read.result c.read.ensures.exact
