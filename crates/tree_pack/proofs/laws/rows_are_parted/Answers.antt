use Rattle.tree_pack.proofs.RowLemmas.{rows_parted}
use Rattle.tree_pack.proofs.laws.rows_are_parted.Goals as goal

pub returns : goal.returns
returns g c = λ none low high counts rows within rises. rows_parted none counts rows low high within rises
