-- the entries of the records so far are those of rows
use Rattle.std.proofs.Common.{◌≡◌, map, true}
use Rattle.index_build.specs.Checking.{IsRowsEntry, are_by_rowid}
use Rattle.index_build.proofs.Comparing.{AreSoFar}
use Rattle.index_build.proofs.checking.are_of_rows.Given as goal

abbrev pub invariant-records : goal.invariant-records
invariant-records l = are_by_rowid l.rows ≡ true → AreSoFar (IsRowsEntry l.columns l.rows) (map (λ bytes. bytes.items) l.records) l.index
