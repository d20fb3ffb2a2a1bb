use Rattle.index_build.specs.Ranking.{have_one_key}
use Rattle.index_build.proofs.Neighbours.{IsPast}
use Rattle.index_build.proofs.clashes.has_clash.Given as goal

abbrev pub invariant-entries : goal.invariant-entries
invariant-entries l = IsPast (have_one_key 0 l.columns) l.entries l.index
