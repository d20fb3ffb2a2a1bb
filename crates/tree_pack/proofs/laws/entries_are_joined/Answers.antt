use Rattle.tree_pack.proofs.Joins.{entries_joined}
use Rattle.tree_pack.proofs.FillingLemmas.{cut_entries}
use Rattle.tree_pack.proofs.laws.entries_are_joined.Goals as goal

pub returns-clause-whole : goal.returns-clause-whole
returns-clause-whole g c = λ counts items. entries_joined counts items

pub returns-clause-parts : goal.returns-clause-parts
returns-clause-parts g c = λ room rises sizes counts items same cut. cut_entries room rises sizes counts items same cut
