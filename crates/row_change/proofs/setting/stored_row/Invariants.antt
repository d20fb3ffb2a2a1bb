-- what is left of the columns decides
use Rattle.std.proofs.Common.{◌≡◌, drop, map}
use Rattle.catalog.specs.Listed.{as_column}
use Rattle.row_change.specs.Constraints.{with_affinity}
use Rattle.query_terms.proofs.InOrder.{with_front}
use Rattle.row_change.proofs.setting.stored_row.Given as goal

abbrev pub invariant-columns : goal.invariant-columns
invariant-columns l = with_front l.new.items (with_affinity (map as_column (drop l.index l.columns)) (drop l.index l.values)) ≡ with_affinity (map as_column l.columns) l.values
