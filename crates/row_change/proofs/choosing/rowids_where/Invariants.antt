-- what is left decides
use Rattle.std.proofs.Common.{◌≡◌, drop, []}
use Rattle.row_change.specs.Choosing.{rowids_after}
use Rattle.row_change.proofs.choosing.rowids_where.Given as goal

abbrev pub invariant-rows : goal.invariant-rows
invariant-rows l = rowids_after l.condition l.rowids.items (drop l.index l.rows) ≡ rowids_after l.condition [] l.rows
