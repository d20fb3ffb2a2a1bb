use Rattle.sql_syntax.specs.declared.change.Change.TheVariants as kind
use Rattle.query_bind.proofs.Chains.{handed_on}
use Rattle.row_change.specs.Changes.{resolve_change}
use Rattle.trigger_names.specs.Resolved.{resolved_of}
use Rattle.trigger_names.proofs.NamedChanges.{around, given_refused, insert_known, insert_unnamed, places_refused, target_is}
use Rattle.trigger_names.proofs.changes.bind_insert.Goals as goal

pub returns-in_err-source-clause-named : goal.returns-in_err-source-clause-named
returns-in_err-source-clause-named c rows_at db held outer lists =
    let i = c.args.insert.now in
    let o = c.args.outer.now in
    handed_on (resolved_of (kind.Insert i)) (resolve_change db (around db o held) (kind.Insert i)) c.in_err-source.field-0.0 c.from_residual.result c.from_residual.ensures.1
    (insert_unnamed db o held i c.in_err-source.field-0.0 (c.in_err-source.ensures.named rows_at db lists))

pub returns-in_err-places-clause-named : goal.returns-in_err-places-clause-named
returns-in_err-places-clause-named c rows_at db held outer lists =
    let i = c.args.insert.now in
    let o = c.args.outer.now in
    let s = c.in_ok-source.source in
    let at = target_is db i.table s (c.in_ok-source.ensures.named rows_at db lists) in
    handed_on (resolved_of (kind.Insert i)) (resolve_change db (around db o held) (kind.Insert i)) c.in_err-places.field-0.0 c.from_residual-in_err-places.result c.from_residual-in_err-places.ensures.1
    (places_refused db o held i s at c.in_err-places.field-0.0 c.in_err-places.ensures.named)

pub returns-in_err-rows-clause-named : goal.returns-in_err-rows-clause-named
returns-in_err-rows-clause-named c rows_at db held outer lists =
    let i = c.args.insert.now in
    let o = c.args.outer.now in
    let s = c.in_ok-source.source in
    let at = target_is db i.table s (c.in_ok-source.ensures.named rows_at db lists) in
    handed_on (resolved_of (kind.Insert i)) (resolve_change db (around db o held) (kind.Insert i)) c.in_err-rows.field-0.0 c.from_residual-in_err-rows.result c.from_residual-in_err-rows.ensures.1
    (given_refused db o held i s at c.values_wanted-count.result (c.values_wanted-count.ensures.wanted at.known) c.in_err-rows.field-0.0 (c.in_err-rows.ensures.named rows_at db held outer lists))

pub returns-clause-named : goal.returns-clause-named
returns-clause-named c rows_at db held outer lists =
    let i = c.args.insert.now in
    let o = c.args.outer.now in
    let s = c.in_ok-source.source in
    let at = target_is db i.table s (c.in_ok-source.ensures.named rows_at db lists) in
    insert_known db o held i s at c.values_wanted-count.result (c.values_wanted-count.ensures.wanted at.known) c.in_ok-places.places.items _ c.in_ok-places.ensures.named
    (c.in_ok-rows.ensures.named rows_at db held outer lists)
