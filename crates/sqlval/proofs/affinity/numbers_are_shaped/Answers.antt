use Rattle.sqlval.proofs.NumberLemmas.{numbers_shaped}
use Rattle.sqlval.proofs.affinity.numbers_are_shaped.Goals as goal

pub returns : goal.returns
returns c = numbers_shaped
