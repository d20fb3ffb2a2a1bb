use Rattle.catalog.proofs.IndexChanges.{lists_new_index, lists_other_indexes}
use Rattle.catalog.proofs.indexes_come_and_go.Goals as goal

pub returns-clause-new : goal.returns-clause-new
returns-clause-new c = lists_new_index

pub returns-clause-others : goal.returns-clause-others
returns-clause-others c = lists_other_indexes
