-- what is left of the rows decides
use Rattle.std.proofs.Common.{◌≡◌, drop, map}
use Rattle.sqlval.specs.Refusals.{all_answers}
use Rattle.query_terms.specs.Rows.{seen}
use Rattle.query_names.specs.Readings.{values}
use Rattle.row_scan.specs.Rows.{values_of}
use Rattle.query_terms.proofs.InOrder.{left}
use Rattle.executor_programs.proofs.outer.rows_of_terms.Given as goal

abbrev pub invariant-rows : goal.invariant-rows
invariant-rows l = left (values (seen l.env)) (drop l.terms-index l.rows) (map values_of l.found.items) ≡ all_answers (map (values (seen l.env)) l.rows)
