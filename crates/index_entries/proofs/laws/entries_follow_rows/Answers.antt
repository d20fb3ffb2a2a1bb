use Rattle.index_entries.proofs.Rows.{adds_its_entry, parted, takes_its_entry}
use Rattle.index_entries.proofs.laws.entries_follow_rows.Goals as goal

pub returns-clause-adds : goal.returns-clause-adds
returns-clause-adds c = adds_its_entry

pub returns-clause-takes : goal.returns-clause-takes
returns-clause-takes c = takes_its_entry

pub returns-clause-parted : goal.returns-clause-parted
returns-clause-parted c = parted
