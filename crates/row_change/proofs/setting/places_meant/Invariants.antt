-- what is left of the rows decides
use Rattle.std.proofs.Common.{◌≡◌, [], drop, map}
use Rattle.query_terms.specs.Rows.{row_at}
use Rattle.row_change.specs.Setting.{rows_meant}
use Rattle.row_change.proofs.setting.places_meant.Given as goal

abbrev pub invariant-rows : goal.invariant-rows
invariant-rows l = rows_meant l.condition (map (row_at l.rows) l.places.items) (drop l.index l.rows) ≡ rows_meant l.condition [] l.rows
