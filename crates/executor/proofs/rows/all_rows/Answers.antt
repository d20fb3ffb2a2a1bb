use Rattle.std.proofs.Common.{rules, ◌≡◌, Some, None, refl, subst}
use Rattle.catalog.specs.Listed.{listed_in, table_named, tables_of, view_named, views_of}
use Rattle.catalog.specs.declared.tables.RowShape.{RowShape}
use Rattle.row_scan.specs.Sources.{LoadsRows}
use Rattle.executor.proofs.AllRows.{none_read, table_read, view_read}
use Rattle.executor.proofs.rows.all_rows.Goals as goal

pub returns-in-Some-clause-read : goal.returns-in-Some-clause-read
returns-in-Some-clause-read g c = λ told.
    (let pages = g.P.Pages in
    let old = pages.map c.args.pages.now in
    let size = (pages.limits (pages.below c.args.pages.now)).page in
    let table = c.in-Some.table.now in
    let named : table_named c.args.name.now (tables_of c.args.catalog.now) ≡ Some table = search rules in
    table_read old size (listed_in c.args.catalog.now) c.args.name.now table c.source_rows.result named
    (subst (λ (shape : RowShape). LoadsRows old size (record { root = table.root; shape = shape }) c.source_rows.result) c.shape.ensures (c.source_rows.ensures.loaded told)))

pub returns-in-Some-view-clause-read : goal.returns-in-Some-view-clause-read
returns-in-Some-view-clause-read g c = λ told.
    (let pages = g.P.Pages in
    let no_table : table_named c.args.name.now (tables_of c.args.catalog.now) ≡ None = search rules in
    let named : view_named c.args.name.now (views_of c.args.catalog.now) ≡ Some c.in-Some-view.view.now = search rules in
    view_read (pages.map c.args.pages.now) (pages.limits (pages.below c.args.pages.now)).page (listed_in c.args.catalog.now) c.args.name.now c.in-Some-view.view.now c.view_rows.result no_table named (c.view_rows.ensures.read told))

pub returns-in_ok-copy-in-None-clause-read : goal.returns-in_ok-copy-in-None-clause-read
returns-in_ok-copy-in-None-clause-read g c = λ told.
    (let pages = g.P.Pages in
    let no_table : table_named c.args.name.now (tables_of c.args.catalog.now) ≡ None = search rules in
    let no_view : view_named c.args.name.now (views_of c.args.catalog.now) ≡ None = search rules in
    none_read c.listed_tables_are_found.ensures.finds (pages.map c.args.pages.now) (pages.limits (pages.below c.args.pages.now)).page (listed_in c.args.catalog.now) c.args.name.now no_table no_view _ refl)
