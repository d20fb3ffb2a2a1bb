use Rattle.std.proofs.Common.{[], map, subst}
use Rattle.std.specs.Prelude.{List, ◌≡◌}
use Rattle.sqlval.specs.Faults.{IsOrMemory}
use Rattle.query_names.specs.Queries.{resolve_query}
use Rattle.query_names.specs.Views.{look_up}
use Rattle.query_names.specs.declared.scope.ScopeColumn.{ScopeColumn}
use Rattle.executor_schema.proofs.ColumnNames.{names_are, refused_names}
use Rattle.executor_schema.proofs.columns.column_names.Goals as goal

pub returns-in_err-bound-clause-named : goal.returns-in_err-bound-clause-named
returns-in_err-bound-clause-named g rows_at db lists =
    refused_names (resolve_query (look_up db) [] g.args.query.now) g.from_residual.result g.in_err-bound.field-0.0 g.from_residual.ensures.1 (g.in_err-bound.ensures.named rows_at db lists)

pub returns-clause-named : goal.returns-clause-named
returns-clause-named g rows_at db lists =
    names_are (resolve_query (look_up db) [] g.args.query.now) g.in_ok-bound.bound.reading g.names_of-names.result (g.in_ok-bound.ensures.named rows_at db lists)
    (subst (λ (columns : List ScopeColumn). IsOrMemory (λ names. names.items ≡ map (λ column. column.name) columns) g.names_of-names.result) g.as_slice.ensures g.names_of-names.ensures)
