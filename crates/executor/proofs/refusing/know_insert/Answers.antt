use Rattle.sql_syntax.specs.declared.change.Change.TheVariants as kind
use Rattle.row_change.specs.Changes.{no_outer, resolve_change}
use Rattle.executor.proofs.RefusedViews.{given_known, insert_unnamed, passed_on, places_refused, target_is}
use Rattle.executor.proofs.refusing.know_insert.Goals as goal

pub returns-in_err-source-clause-known : goal.returns-in_err-source-clause-known
returns-in_err-source-clause-known c rows_at db lists =
    let i = c.args.insert.now in
    passed_on (resolve_change db no_outer (kind.Insert i)) c.from_residual.result c.in_err-source.field-0.0 c.from_residual.ensures.1
    (insert_unnamed db i c.in_err-source.field-0.0 (c.in_err-source.ensures.named rows_at db lists))

pub returns-in_err-count-clause-known : goal.returns-in_err-count-clause-known
returns-in_err-count-clause-known c rows_at db lists =
    let i = c.args.insert.now in
    let s = c.in_ok-source.source in
    let at = target_is db i.table s (c.in_ok-source.ensures.named rows_at db lists) in
    passed_on (resolve_change db no_outer (kind.Insert i)) c.from_residual-in_err-count.result c.in_err-count.field-0.0 c.from_residual-in_err-count.ensures.1
    (places_refused db i s at c.in_err-count.field-0.0 (c.in_err-count.ensures.known at.known))

pub returns-clause-known : goal.returns-clause-known
returns-clause-known c rows_at db lists =
    let i = c.args.insert.now in
    let s = c.in_ok-source.source in
    let at = target_is db i.table s (c.in_ok-source.ensures.named rows_at db lists) in
    let places = c.in_ok-count.ensures.known at.known in
    given_known db i s at c.in_ok-count.count c.know_given.result places.0 places.1 (c.know_given.ensures.known rows_at db lists)
