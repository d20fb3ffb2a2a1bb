use Rattle.tree_pack.proofs.Joins.{sides_joined}
use Rattle.tree_pack.proofs.FillingLemmas.{cut_sides}
use Rattle.tree_pack.proofs.laws.sides_are_joined.Goals as goal

pub returns-clause-whole : goal.returns-clause-whole
returns-clause-whole g c = λ counts side. sides_joined counts side

pub returns-clause-parts : goal.returns-clause-parts
returns-clause-parts g c = λ room rises sizes counts side same cut. cut_sides room rises sizes counts side same cut
