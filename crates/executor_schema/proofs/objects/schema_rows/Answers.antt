use Rattle.std.proofs.Common.{map, subst}
use Rattle.std.specs.Prelude.{List, ◌≡◌}
use Rattle.sqlval.specs.Faults.{IsOrMemory}
use Rattle.query_terms.specs.Values.{Row}
use Rattle.row_scan.specs.Rows.{values_of}
use Rattle.executor_schema.proofs.SchemaValues.{made_tell, outside_told, schema_refused, tells_all}
use Rattle.executor_schema.proofs.objects.schema_rows.Goals as goal

pub returns-in_err-found-clause-told : goal.returns-in_err-found-clause-told
returns-in_err-found-clause-told g c = λ told l db stored.
    outside_told db c.from_residual.result c.in_err-found.field-0.0 c.from_residual.ensures.1 (schema_refused _ _ l db stored c.in_err-found.field-0.0 (c.in_err-found.ensures.loaded told))

pub returns-clause-told : goal.returns-clause-told
returns-clause-told g c = λ told l db stored.
    made_tell db c.in_ok-found.found c.rows_made.result (tells_all _ _ l db stored c.in_ok-found.found (c.in_ok-found.ensures.loaded told))
    (subst (λ (found : List Row). IsOrMemory (λ rows. map values_of rows.items ≡ map (λ row. row.values) found) c.rows_made.result) c.as_slice.ensures c.rows_made.ensures)
