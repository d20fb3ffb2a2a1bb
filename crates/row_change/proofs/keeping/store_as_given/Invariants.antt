-- what is left of the columns decides
use Rattle.std.proofs.Common.{drop, map}
use Rattle.sqlval.specs.Fields.{value_of}
use Rattle.row_change.proofs.KeptRows.{AreAsGiven}
use Rattle.row_change.proofs.keeping.store_as_given.Given as goal

abbrev pub invariant-columns : goal.invariant-columns
invariant-columns l = AreAsGiven (drop l.index l.columns) (map value_of (drop l.index l.fields)) → AreAsGiven l.columns (map value_of l.fields)
