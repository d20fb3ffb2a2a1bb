use Rattle.std.proofs.Common.{◌≡◌, ◌∷◌, [], rules}
use Rattle.sql_syntax.specs.declared.change.Change.TheVariants as kind
use Rattle.row_change.specs.Changes.{no_outer, resolve_change}
use Rattle.executor.proofs.RefusedViews.{delete_known, delete_refused, delete_unnamed, passed_on, target_is}
use Rattle.executor.proofs.refusing.know_delete.Goals as goal

pub returns-in_err-source-clause-known : goal.returns-in_err-source-clause-known
returns-in_err-source-clause-known c rows_at db lists =
    let d = c.args.delete.now in
    passed_on (resolve_change db no_outer (kind.Delete d)) c.from_residual.result c.in_err-source.field-0.0 c.from_residual.ensures.1
    (delete_unnamed db d c.in_err-source.field-0.0 (c.in_err-source.ensures.named rows_at db lists))

pub returns-in_err-bind_filter-clause-known : goal.returns-in_err-bind_filter-clause-known
returns-in_err-bind_filter-clause-known c rows_at db lists =
    let d = c.args.delete.now in
    let s = c.in_ok-source.source in
    let at = target_is db d.table s (c.in_ok-source.ensures.named rows_at db lists) in
    let scope : c.as_slice.result.now ≡ s ∷ [] = search rules in
    let named = rw (scope) at c.in_err-bind_filter.ensures.named in
    passed_on (resolve_change db no_outer (kind.Delete d)) c.from_residual-in_err-bind_filter.result c.in_err-bind_filter.field-0.0 c.from_residual-in_err-bind_filter.ensures.1
    (delete_refused db d s at c.in_err-bind_filter.field-0.0 named)

pub returns-clause-known : goal.returns-clause-known
returns-clause-known c rows_at db lists =
    let d = c.args.delete.now in
    let s = c.in_ok-source.source in
    let at = target_is db d.table s (c.in_ok-source.ensures.named rows_at db lists) in
    let scope : c.as_slice.result.now ≡ s ∷ [] = search rules in
    let filtered = rw (scope) at c.in_ok-bind_filter.ensures.named in
    delete_known db d s at c.in_ok-bind_filter.field-0 filtered
