use Rattle.std.proofs.Common.{◌≡◌, sym, ap, subst, ◌∙◌}
use Rattle.std.specs.Prelude.{Option, Some, None}
use Rattle.catalog.specs.Database.{ATrigger, Object}
use Rattle.catalog.specs.Listed.{as_view, table_named, tables_of, view_named, views_of}
use Rattle.catalog.specs.declared.tables.Table.{Table}
use Rattle.catalog.specs.declared.tables.View.{View}
use Rattle.query_names.specs.Named.{NamesBy}
use Rattle.query_names.specs.Schema.{trigger_made}
use Rattle.query_bind.specs.Triggers.{target_among}
use Rattle.query_bind.proofs.TriggerNames.{none_named}
use Rattle.query_bind.proofs.triggers.fit_target.Goals as goal

pub returns-in-Some-clause-fits : goal.returns-in-Some-clause-fits
returns-in-Some-clause-fits c = λ once.
    let d = c.args.definition.now in
    let named : table_named d.target (tables_of c.args.catalog.now) ≡ Some c.in-Some.table.now = ap (λ n. table_named n (tables_of c.args.catalog.now)) (sym c.as_str-target.ensures) ∙ sym c.in-Some.ensures in
    subst (λ (t : Option Table). NamesBy {A = Object} (λ done. ATrigger d) (trigger_made (target_among t (view_named d.target (views_of c.args.catalog.now))) d) c.fit_table.result) (sym named)
    (c.fit_table.ensures.fits (once d.target c.in-Some.table.now named))

pub returns-in-Some-view-clause-fits : goal.returns-in-Some-view-clause-fits
returns-in-Some-view-clause-fits c = λ once.
    let d = c.args.definition.now in
    let none : table_named d.target (tables_of c.args.catalog.now) ≡ None =
    ap (λ n. table_named n (tables_of c.args.catalog.now)) (sym c.as_str-target.ensures) ∙ (sym c.table.ensures ∙ none_named c.table.result c.in_default.not-Some) in
    let named : view_named d.target (views_of c.args.catalog.now) ≡ Some c.in-Some-view.field-0.now = ap (λ n. view_named n (views_of c.args.catalog.now)) (sym c.as_str-target.ensures) ∙ sym c.in-Some-view.ensures in
    subst (λ (t : Option Table). NamesBy {A = Object} (λ done. ATrigger d) (trigger_made (target_among t (view_named d.target (views_of c.args.catalog.now))) d) c.fit_view.result) (sym none)
    (subst (λ (v : Option View). NamesBy {A = Object} (λ done. ATrigger d) (trigger_made (target_among None v) d) c.fit_view.result) (sym named)
    (c.fit_view.ensures.fits (as_view c.in-Some-view.field-0.now)))
