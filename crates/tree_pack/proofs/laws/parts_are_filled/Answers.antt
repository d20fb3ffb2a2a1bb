use Rattle.std.proofs.Common.{arith}
use Rattle.tree_pack.proofs.FillingLemmas.{cut_some, as_long}
use Rattle.tree_pack.proofs.laws.parts_are_filled.Goals as goal

pub returns : goal.returns
returns g c = λ up room rises sizes counts items same long cut.
    as_long up counts sizes items same (cut_some up room rises sizes counts (omega (arith, long, same)) cut)
