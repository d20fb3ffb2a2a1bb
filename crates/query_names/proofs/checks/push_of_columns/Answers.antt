use Rattle.std.proofs.Common.{◌∙◌, ap, arith, flat_map, subst, sym}
use Rattle.query_names.specs.Bound.{IsFaultOf}
use Rattle.query_names.specs.Checked.{faults}
use Rattle.query_names.specs.Creating.{known_after}
use Rattle.query_names.specs.Tables.{column_check}
use Rattle.query_names.proofs.BoundChecks.{next_known, next_refused}
use Rattle.query_names.proofs.BoundLists.{handed_on}
use Rattle.query_names.proofs.checks.push_of_columns.Goals as goal

pub returns-in_err-push_of_column : goal.returns-in_err-push_of_column
returns-in_err-push_of_column c =
    let refused : IsFaultOf (faults (known_after c.args.scope.now c.columns.found.items (flat_map column_check c.column-item.result.rules))) c.in_err-push_of_column.field-0.0 =
    subst (λ rules. IsFaultOf (faults (known_after c.args.scope.now c.columns.found.items (flat_map column_check rules))) c.in_err-push_of_column.field-0.0) c.as_slice.ensures c.in_err-push_of_column.ensures in
    handed_on _ (known_after c.args.scope.now c.args.found.now.items (flat_map (λ c. flat_map column_check c.rules) c.args.columns.now)) c.in_err-push_of_column.field-0.0 c.from_residual.result c.from_residual.ensures.1
    (subst (λ k. IsFaultOf (faults k) c.in_err-push_of_column.field-0.0) c.columns.invariant
    (next_refused c.args.scope.now (λ c. flat_map column_check c.rules) c.args.columns.now c.columns.column-index c.column-item.result c.columns.found.items (omega (arith, c.columns-test.true)) c.column-item.is
    c.in_err-push_of_column.field-0.0 refused))

pub columns-preserved : goal.columns-preserved
columns-preserved c =
    let known = ap (λ rules. known_after c.args.scope.now c.columns.found.items (flat_map column_check rules)) (sym c.as_slice.ensures) ∙ c.in_ok-push_of_column.ensures in
    next_known c.args.scope.now (λ c. flat_map column_check c.rules) c.args.columns.now c.columns.column-index c.column-item.result c.columns.found.items (omega (arith, c.columns-test.true)) c.column-item.is
    c.push_of_column.new.found.items known ∙ c.columns.invariant
