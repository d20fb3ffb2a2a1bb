use Rattle.tree_pack.proofs.CountLemmas.{rows_short, kids_short}
use Rattle.tree_pack.proofs.laws.keys_are_short.Goals as goal

pub returns-clause-rows : goal.returns-clause-rows
returns-clause-rows c = rows_short

pub returns-clause-keys : goal.returns-clause-keys
returns-clause-keys c = kids_short
