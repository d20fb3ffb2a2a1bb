use Rattle.std.proofs.Common.{subst, sym}
use Rattle.sql_syntax.specs.declared.change.Change.{Change}
use Rattle.query_names.specs.Named.{NamesBy}
use Rattle.row_change.specs.Changes.{Outer, resolve_change}
use Rattle.trigger_names.specs.Resolved.{resolved_of}
use Rattle.trigger_names.proofs.changes.bind_change.Goals as goal

pub returns-in-Insert-clause-named : goal.returns-in-Insert-clause-named
returns-in-Insert-clause-named c rows_at db rows outer is =
    let around : Outer = record { scope = c.args.outer.now; rows = rows } in
    subst (λ (change : Change). NamesBy (resolved_of change) (resolve_change db around change) c.bind_insert.result) (sym c.in-Insert.is)
    (c.bind_insert.ensures.named rows_at db rows outer is.lists)

pub returns-in-Update-clause-named : goal.returns-in-Update-clause-named
returns-in-Update-clause-named c rows_at db rows outer is =
    let around : Outer = record { scope = c.args.outer.now; rows = rows } in
    subst (λ (change : Change). NamesBy (resolved_of change) (resolve_change db around change) c.bind_update.result) (sym c.in-Update.is)
    (c.bind_update.ensures.named rows_at db rows outer is.lists)

pub returns-in-Delete-clause-named : goal.returns-in-Delete-clause-named
returns-in-Delete-clause-named c rows_at db rows outer is =
    let around : Outer = record { scope = c.args.outer.now; rows = rows } in
    subst (λ (change : Change). NamesBy (resolved_of change) (resolve_change db around change) c.bind_delete.result) (sym c.in-Delete.is)
    (c.bind_delete.ensures.named rows_at db rows outer is.lists)
