use Rattle.index_build.proofs.SameClashes.{clash_alike}
use Rattle.index_build.proofs.laws.rows_clash_alike.Goals as goal

pub returns : goal.returns
returns c = clash_alike
