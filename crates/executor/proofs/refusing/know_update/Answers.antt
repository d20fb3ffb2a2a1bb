use Rattle.std.proofs.Common.{◌≡◌, ◌∙◌, ◌∷◌, [], rules}
use Rattle.sql_syntax.specs.declared.change.Change.TheVariants as kind
use Rattle.query_bind.specs.Assigned.{columns_set}
use Rattle.row_change.specs.Changes.{no_outer, resolve_change}
use Rattle.executor.proofs.RefusedViews.{filter_refused, passed_on, set_places_refused, target_is, update_known, update_unnamed, values_refused}
use Rattle.executor.proofs.refusing.know_update.Goals as goal

pub returns-in_err-source-clause-known : goal.returns-in_err-source-clause-known
returns-in_err-source-clause-known c rows_at db lists =
    let u = c.args.update.now in
    passed_on (resolve_change db no_outer (kind.Update u)) c.from_residual.result c.in_err-source.field-0.0 c.from_residual.ensures.1
    (update_unnamed db u c.in_err-source.field-0.0 (c.in_err-source.ensures.named rows_at db lists))

pub returns-in_err-bind_places-clause-known : goal.returns-in_err-bind_places-clause-known
returns-in_err-bind_places-clause-known c rows_at db lists =
    let u = c.args.update.now in
    let s = c.in_ok-source.source in
    let at = target_is db u.table s (c.in_ok-source.ensures.named rows_at db lists) in
    let names : c.deref.result.now ≡ columns_set u.assignments = search rules in
    passed_on (resolve_change db no_outer (kind.Update u)) c.from_residual-in_err-bind_places.result c.in_err-bind_places.field-0.0 c.from_residual-in_err-bind_places.ensures.1
    (set_places_refused db u s at c.in_err-bind_places.field-0.0 c.deref.result.now names c.in_err-bind_places.ensures.named)

pub returns-in_err-bind_values-clause-known : goal.returns-in_err-bind_values-clause-known
returns-in_err-bind_values-clause-known c rows_at db lists =
    let u = c.args.update.now in
    let s = c.in_ok-source.source in
    let at = target_is db u.table s (c.in_ok-source.ensures.named rows_at db lists) in
    let scope : c.as_slice-scope.result.now ≡ s ∷ [] = search rules in
    let named = rw (scope) at c.in_err-bind_values.ensures.named in
    let values = rw (c.as_slice-assignments.ensures) at named in
    passed_on (resolve_change db no_outer (kind.Update u)) c.from_residual-in_err-bind_values.result c.in_err-bind_values.field-0.0 c.from_residual-in_err-bind_values.ensures.1
    (values_refused db u s at c.in_err-bind_values.field-0.0 values)

pub returns-in_err-bind_filter-clause-known : goal.returns-in_err-bind_filter-clause-known
returns-in_err-bind_filter-clause-known c rows_at db lists =
    let u = c.args.update.now in
    let s = c.in_ok-source.source in
    let at = target_is db u.table s (c.in_ok-source.ensures.named rows_at db lists) in
    let scope : c.as_slice-scope.result.now ≡ s ∷ [] = search rules in
    let named = rw (scope) at c.in_err-bind_filter.ensures.named in
    passed_on (resolve_change db no_outer (kind.Update u)) c.from_residual-in_err-bind_filter.result c.in_err-bind_filter.field-0.0 c.from_residual-in_err-bind_filter.ensures.1
    (filter_refused db u s at c.in_err-bind_filter.field-0.0 named)

pub returns-clause-known : goal.returns-clause-known
returns-clause-known c rows_at db lists =
    let u = c.args.update.now in
    let s = c.in_ok-source.source in
    let at = target_is db u.table s (c.in_ok-source.ensures.named rows_at db lists) in
    let names : c.deref.result.now ≡ columns_set u.assignments = search rules in
    let scope : c.as_slice-scope.result.now ≡ s ∷ [] = search rules in
    let valued = rw (c.as_slice-assignments.ensures) at (rw (scope) at c.in_ok-bind_values.ensures.named) in
    let filtered = rw (scope) at c.in_ok-bind_filter.ensures.named in
    update_known db u s at c.deref.result.now c.in_ok-bind_places.field-0.items c.in_ok-bind_values.field-0.items c.in_ok-bind_filter.field-0 names c.in_ok-bind_places.ensures.named valued filtered
