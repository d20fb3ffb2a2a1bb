use Rattle.std.proofs.Common.{◌≡◌, rules}
use Rattle.sql_syntax.specs.declared.change.Change.TheVariants as kind
use Rattle.query_bind.proofs.Chains.{handed_on}
use Rattle.row_change.specs.Changes.{resolve_change}
use Rattle.trigger_names.specs.Resolved.{resolved_of, row_seen}
use Rattle.trigger_names.proofs.NamedChanges.{around, delete_known, delete_refused, delete_unnamed, target_is}
use Rattle.trigger_names.proofs.changes.bind_delete.Goals as goal

pub returns-in_err-source-clause-named : goal.returns-in_err-source-clause-named
returns-in_err-source-clause-named c rows_at db held outer lists =
    let d = c.args.delete.now in
    let o = c.args.outer.now in
    handed_on (resolved_of (kind.Delete d)) (resolve_change db (around db o held) (kind.Delete d)) c.in_err-source.field-0.0 c.from_residual.result c.from_residual.ensures.1
    (delete_unnamed db o held d c.in_err-source.field-0.0 (c.in_err-source.ensures.named rows_at db lists))

pub returns-in_err-condition-clause-named : goal.returns-in_err-condition-clause-named
returns-in_err-condition-clause-named c rows_at db held outer lists =
    let d = c.args.delete.now in
    let o = c.args.outer.now in
    let s = c.in_ok-source.source in
    let at = target_is db d.table s (c.in_ok-source.ensures.named rows_at db lists) in
    let scope : c.deref.result.now ≡ row_seen o s = search rules in
    let named = rw (scope) at c.in_err-condition.ensures.named in
    handed_on (resolved_of (kind.Delete d)) (resolve_change db (around db o held) (kind.Delete d)) c.in_err-condition.field-0.0 c.from_residual-in_err-condition.result c.from_residual-in_err-condition.ensures.1
    (delete_refused db o held d s at c.in_err-condition.field-0.0 named)

pub returns-clause-named : goal.returns-clause-named
returns-clause-named c rows_at db held outer lists =
    let d = c.args.delete.now in
    let o = c.args.outer.now in
    let s = c.in_ok-source.source in
    let at = target_is db d.table s (c.in_ok-source.ensures.named rows_at db lists) in
    let scope : c.deref.result.now ≡ row_seen o s = search rules in
    let filtered = rw (scope) at c.in_ok-condition.ensures.named in
    delete_known db o held d s at c.in_ok-condition.condition filtered
