use Rattle.std.proofs.Common.{◌≡◌, ◌∙◌, Some, ap, subst, sym}
use Rattle.sql_syntax.specs.declared.change.InsertSource.{InsertSource}
use Rattle.sql_syntax.specs.declared.change.InsertSource.TheVariants as source
use Rattle.query_names.specs.Named.{NamesBy}
use Rattle.row_change.specs.Changes.{Outer, resolve_given}
use Rattle.trigger_names.specs.Resolved.{bound_given}
use Rattle.trigger_names.proofs.giving.bind_given.Goals as goal

pub returns-in-Rows-clause-named : goal.returns-in-Rows-clause-named
returns-in-Rows-clause-named c rows_at db held outer lists =
    let around : Outer = record { scope = c.args.outer.now; rows = held } in
    let here : c.args.source.now ≡ source.Rows c.as_slice.result.now = c.in-Rows.is ∙ ap source.Rows (sym c.as_slice.ensures) in
    subst (λ (s : InsertSource). NamesBy bound_given (resolve_given db around (Some c.args.count) s) c.bind_values_given.result) (sym here) (c.bind_values_given.ensures.named db held)

pub returns-in-Query-clause-named : goal.returns-in-Query-clause-named
returns-in-Query-clause-named c rows_at db held outer lists =
    let around : Outer = record { scope = c.args.outer.now; rows = held } in
    subst (λ (s : InsertSource). NamesBy bound_given (resolve_given db around (Some c.args.count) s) c.bind_query_given.result) (sym c.in-Query.is)
    (c.bind_query_given.ensures.named rows_at db held outer lists)
