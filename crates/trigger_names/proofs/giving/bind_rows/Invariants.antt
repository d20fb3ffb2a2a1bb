-- what is left of the rows decides
use Rattle.std.proofs.Common.{◌≡◌, drop, map}
use Rattle.query_names.specs.Checked.{known_all, onto_list}
use Rattle.trigger_names.proofs.GivenRows.{row_known}
use Rattle.trigger_names.proofs.giving.bind_rows.Given as goal

abbrev pub invariant-rows : goal.invariant-rows
invariant-rows l = onto_list l.found (known_all (map (row_known l.scope) (drop l.row-index l.rows))) ≡ known_all (map (row_known l.scope) l.rows)
