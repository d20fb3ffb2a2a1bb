-- the changes up to here are those to the rows up to here, and the rows are as they were
use Rattle.std.proofs.Common.{map}
use Rattle.std.specs.List.{AllByRecursion}
use Rattle.row_change.specs.NewRows.{IsReplacement, entry_left, row_of}
use Rattle.row_change.proofs.Records.{AreWrittenSoFar}
use Rattle.row_change.proofs.inserting.changes_of.Given as goal

abbrev pub invariant-rows : goal.invariant-rows
invariant-rows l = AreWrittenSoFar l.own (map row_of l.initial.rows) (map row_of l.rows) l.index (map entry_left l.changes.items) × AllByRecursion IsReplacement l.changes.items
