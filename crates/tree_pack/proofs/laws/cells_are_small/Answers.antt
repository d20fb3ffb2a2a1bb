use Rattle.tree_pack.proofs.SmallLemmas.{row_small, key_small, entry_small, between_small, node_packs}
use Rattle.tree_pack.proofs.laws.cells_are_small.Goals as goal

pub returns-clause-row : goal.returns-clause-row
returns-clause-row c = row_small

pub returns-clause-key : goal.returns-clause-key
returns-clause-key c = key_small

pub returns-clause-entry : goal.returns-clause-entry
returns-clause-entry c = entry_small

pub returns-clause-between : goal.returns-clause-between
returns-clause-between c = between_small

pub returns-clause-all : goal.returns-clause-all
returns-clause-all c = node_packs
