-- what is left of the columns decides
use Rattle.std.proofs.Common.{◌≡◌, drop, map}
use Rattle.catalog.specs.Listed.{as_column}
use Rattle.row_change.specs.Constraints.{not_null_holds}
use Rattle.row_change.proofs.demands.take_all.Given as goal

abbrev pub invariant-columns : goal.invariant-columns
invariant-columns l = not_null_holds (map as_column (drop l.index l.columns)) (drop l.index l.values) ≡ not_null_holds (map as_column l.columns) l.values
