use Rattle.std.proofs.Common.{◌∙◌, ◌+◌, ap, arith, drop, subst, ◌∷◌, []}
use Rattle.std.proofs.lemmas.List.{map-append}
use Rattle.std.specs.Prelude.{map}
use Rattle.catalog.specs.Listed.{with_rows}
use Rattle.query_names.specs.Bound.{IsFaultOf}
use Rattle.query_names.specs.Checked.{faults, known_all, onto_list}
use Rattle.query_names.specs.Schema.{resolve_index_column}
use Rattle.query_bind.specs.Indexed.{key_of}
use Rattle.query_bind.proofs.Chains.{handed_on}
use Rattle.query_bind.proofs.Grown.{item_refused}
use Rattle.query_bind.proofs.IndexNames.{item_found}
use Rattle.query_bind.proofs.indexed.index_columns.Goals as goal

pub returns-in_err-index_column-clause-columns : goal.returns-in_err-index_column-clause-columns
returns-in_err-index_column-clause-columns c = λ once.
    let f = resolve_index_column c.args.as_name.now (with_rows c.args.table.now []) in
    handed_on (λ columns. map key_of columns.items) (known_all (map f c.args.written.now)) c.in_err-index_column.field-0.0 c.from_residual.result c.from_residual.ensures.1
    (subst (λ k. IsFaultOf (faults k) c.in_err-index_column.field-0.0) (c.columns.invariant once)
    (item_refused f c.args.written.now c.columns.column-index c.column-item.result (map key_of c.columns.columns.items) c.in_err-index_column.field-0.0
    (omega (arith, c.columns-test.true)) c.column-item.is (c.in_err-index_column.ensures.column once)))

pub columns-preserved : goal.columns-preserved
columns-preserved c = λ once.
    let f = resolve_index_column c.args.as_name.now (with_rows c.args.table.now []) in
    let column = c.in_ok-index_column.field-0 in
    ap (λ keys. onto_list keys (known_all (map f (drop (c.columns.column-index + 1) c.args.written.now))))
    (ap (map key_of) (c.in_ok-push.ensures.items) ∙ map-append key_of c.columns.columns.items (column ∷ []))
    ∙ (item_found f c.args.written.now c.columns.column-index c.column-item.result (map key_of c.columns.columns.items) (key_of column) (omega (arith, c.columns-test.true)) c.column-item.is
    (c.in_ok-index_column.ensures.column once) ∙ c.columns.invariant once)
