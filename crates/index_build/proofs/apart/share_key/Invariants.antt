-- what is left of the columns decides
use Rattle.record.specs.Columns.{values_in}
use Rattle.index_build.proofs.OneKeys.{AreLeft}
use Rattle.index_build.proofs.apart.share_key.Given as goal

abbrev pub invariant-columns : goal.invariant-columns
invariant-columns l = AreLeft l.columns (values_in l.a) (values_in l.b) l.index
