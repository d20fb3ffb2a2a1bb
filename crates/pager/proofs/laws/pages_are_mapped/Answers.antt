use Rattle.pager.proofs.Mapping.{count_to, maps_alike, maps_shown, shows_mapped}
use Rattle.pager.proofs.laws.pages_are_mapped.Goals as goal

pub returns-clause-shown : goal.returns-clause-shown
returns-clause-shown c = maps_shown

pub returns-clause-mapped : goal.returns-clause-mapped
returns-clause-mapped c = shows_mapped

pub returns-clause-all : goal.returns-clause-all
returns-clause-all c = λ view. count_to view view.size

pub returns-clause-alike : goal.returns-clause-alike
returns-clause-alike c = maps_alike
