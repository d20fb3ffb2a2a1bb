use Rattle.catalog.proofs.ListedIndexes.{lists_indexes}
use Rattle.catalog.proofs.listed_indexes_are_found.Goals as goal

pub returns : goal.returns
returns c = lists_indexes
