use Rattle.tree_pack.proofs.FillingLemmas.{cut_one, keeps_old, begins_half, two_parts, three_parts}
use Rattle.tree_pack.proofs.laws.parts_are_well_filled.Goals as goal

pub returns-clause-one : goal.returns-clause-one
returns-clause-one c = cut_one

pub returns-clause-rising : goal.returns-clause-rising
returns-clause-rising c = keeps_old

pub returns-clause-half : goal.returns-clause-half
returns-clause-half c = begins_half

pub returns-clause-two : goal.returns-clause-two
returns-clause-two c = two_parts

pub returns-clause-three : goal.returns-clause-three
returns-clause-three c = three_parts
