use Rattle.std.proofs.Common.{[]}
use Rattle.catalog.specs.Listed.{with_rows}
use Rattle.query_names.specs.Schema.{resolve_index_column}
use Rattle.query_bind.specs.Indexed.{key_of}
use Rattle.query_bind.proofs.Chains.{handed_on}
use Rattle.query_bind.proofs.IndexNames.{key_found, place_refused}
use Rattle.query_bind.proofs.indexed.index_column.Goals as goal

pub returns-in_err-place-clause-column : goal.returns-in_err-place-clause-column
returns-in_err-place-clause-column c = λ once.
    handed_on key_of (resolve_index_column c.args.as_name.now (with_rows c.args.table.now []) c.args.written.now) c.in_err-place.field-0.0 c.from_residual.result c.from_residual.ensures.1
    (place_refused c.args.as_name.now c.args.table.now c.args.written.now c.in_err-place.field-0.0 (c.in_err-place.ensures.place once))

pub returns-clause-column : goal.returns-clause-column
returns-clause-column c = λ once.
    key_found c.args.as_name.now c.args.table.now c.args.written.now c.in_ok-place.place c.in_ok-collation.collation (c.in_ok-place.ensures.place once) c.in_ok-collation.ensures.collation
