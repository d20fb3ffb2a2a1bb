-- what is left of the rows decides
use Rattle.std.proofs.Common.{◌≡◌, [], drop, map}
use Rattle.sqlval.specs.Refusals.{all_answers}
use Rattle.query_names.specs.Readings.{env_of, values}
use Rattle.row_scan.specs.Rows.{values_of}
use Rattle.query_terms.proofs.InOrder.{left}
use Rattle.executor.proofs.giving.evaluated_rows.Given as goal

abbrev pub invariant-rows : goal.invariant-rows
invariant-rows l = left (values (env_of [])) (drop l.terms-index l.rows) (map values_of l.found.items) ≡ all_answers (map (values (env_of [])) l.rows)
