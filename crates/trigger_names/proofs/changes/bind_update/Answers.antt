use Rattle.std.proofs.Common.{◌≡◌, rules}
use Rattle.sql_syntax.specs.declared.change.Change.TheVariants as kind
use Rattle.query_bind.proofs.Chains.{handed_on}
use Rattle.row_change.specs.Changes.{resolve_change}
use Rattle.trigger_names.specs.Resolved.{resolved_of, row_seen}
use Rattle.trigger_names.proofs.NamedChanges.{around, filter_refused, set_places_refused, target_is, update_known, update_unnamed, values_refused}
use Rattle.trigger_names.proofs.changes.bind_update.Goals as goal

pub returns-in_err-source-clause-named : goal.returns-in_err-source-clause-named
returns-in_err-source-clause-named c rows_at db held outer lists =
    let u = c.args.update.now in
    let o = c.args.outer.now in
    handed_on (resolved_of (kind.Update u)) (resolve_change db (around db o held) (kind.Update u)) c.in_err-source.field-0.0 c.from_residual.result c.from_residual.ensures.1
    (update_unnamed db o held u c.in_err-source.field-0.0 (c.in_err-source.ensures.named rows_at db lists))

pub returns-in_err-places-clause-named : goal.returns-in_err-places-clause-named
returns-in_err-places-clause-named c rows_at db held outer lists =
    let u = c.args.update.now in
    let o = c.args.outer.now in
    let s = c.in_ok-source.source in
    let at = target_is db u.table s (c.in_ok-source.ensures.named rows_at db lists) in
    let named = rw (c.as_slice-assignments.ensures) at c.in_err-places.ensures.named in
    handed_on (resolved_of (kind.Update u)) (resolve_change db (around db o held) (kind.Update u)) c.in_err-places.field-0.0 c.from_residual-in_err-places.result c.from_residual-in_err-places.ensures.1
    (set_places_refused db o held u s at c.in_err-places.field-0.0 named)

pub returns-in_err-sets-clause-named : goal.returns-in_err-sets-clause-named
returns-in_err-sets-clause-named c rows_at db held outer lists =
    let u = c.args.update.now in
    let o = c.args.outer.now in
    let s = c.in_ok-source.source in
    let at = target_is db u.table s (c.in_ok-source.ensures.named rows_at db lists) in
    let scope : c.deref.result.now ≡ row_seen o s = search rules in
    let places : c.deref-2.result.now ≡ c.in_ok-places.places.items = search rules in
    let placed = rw (c.as_slice-assignments.ensures) at c.in_ok-places.ensures.named in
    let named = rw (c.as_slice-assignments.ensures, scope, places) at c.in_err-sets.ensures.named in
    handed_on (resolved_of (kind.Update u)) (resolve_change db (around db o held) (kind.Update u)) c.in_err-sets.field-0.0 c.from_residual-in_err-sets.result c.from_residual-in_err-sets.ensures.1
    (values_refused db o held u s at c.in_ok-places.places.items placed c.in_err-sets.field-0.0 named)

pub returns-in_err-condition-clause-named : goal.returns-in_err-condition-clause-named
returns-in_err-condition-clause-named c rows_at db held outer lists =
    let u = c.args.update.now in
    let o = c.args.outer.now in
    let s = c.in_ok-source.source in
    let at = target_is db u.table s (c.in_ok-source.ensures.named rows_at db lists) in
    let scope : c.deref-3.result.now ≡ row_seen o s = search rules in
    let placed = rw (c.as_slice-assignments.ensures) at c.in_ok-places.ensures.named in
    let named = rw (scope) at c.in_err-condition.ensures.named in
    handed_on (resolved_of (kind.Update u)) (resolve_change db (around db o held) (kind.Update u)) c.in_err-condition.field-0.0 c.from_residual-in_err-condition.result c.from_residual-in_err-condition.ensures.1
    (filter_refused db o held u s at c.in_ok-places.places.items placed c.in_err-condition.field-0.0 named)

pub returns-clause-named : goal.returns-clause-named
returns-clause-named c rows_at db held outer lists =
    let u = c.args.update.now in
    let o = c.args.outer.now in
    let s = c.in_ok-source.source in
    let at = target_is db u.table s (c.in_ok-source.ensures.named rows_at db lists) in
    let scope : c.deref.result.now ≡ row_seen o s = search rules in
    let places : c.deref-2.result.now ≡ c.in_ok-places.places.items = search rules in
    let placed = rw (c.as_slice-assignments.ensures) at c.in_ok-places.ensures.named in
    let seen : c.deref-3.result.now ≡ row_seen o s = search rules in
    let valued = rw (c.as_slice-assignments.ensures, scope, places) at c.in_ok-sets.ensures.named in
    let filtered = rw (seen) at c.in_ok-condition.ensures.named in
    update_known db o held u s at c.in_ok-places.places.items placed c.in_ok-sets.sets.items c.in_ok-condition.condition valued filtered
