use Rattle.std.proofs.Common.{inl}
use Rattle.catalog.specs.Listed.{listed_in}
use Rattle.executor.proofs.Answering.{handed_on}
use Rattle.executor.proofs.ViewDroppings.{Laws, drops, no_view, rows_there, schema_stand}
use Rattle.executor.proofs.views.drop_view.Goals as goal

pub returns-in_err-view-clause-made : goal.returns-in_err-view-clause-made
returns-in_err-view-clause-made g c told db held =
    handed_on _ _ c.from_residual.result c.in_err-view.field-0.0 c.from_residual.ensures.1
    (no_view c.listed_tables_are_found.ensures.finds _ _ (listed_in c.args.catalog.now) db held c.args.name.now c.in_err-view.field-0.0 c.in_err-view.ensures.refused)

pub returns-in_err-take_view_rows-clause-made : goal.returns-in_err-take_view_rows-clause-made
returns-in_err-take_view_rows-clause-made g c told db held =
    let laws : Laws = record { finds = c.listed_tables_are_found.ensures.finds; others = c.views_come_and_go.ensures.others; stand = c.table_trees_stand.ensures; give_way = c.trees_give_way.ensures } in
    let l = listed_in c.args.catalog.now in
    let n = c.args.name.now in
    let v = c.in_ok-view.view.now in
    let found = c.in_ok-view.ensures.found in
    handed_on _ _ c.from_residual-in_err-take_view_rows.result c.in_err-take_view_rows.field-0.0 c.from_residual-in_err-take_view_rows.ensures.1
    (inl (c.in_err-take_view_rows.ensures.taken told held.schema held.schema_used held.free (schema_stand laws _ _ l db held n v found) (rows_there laws _ _ l db held n v found)))

pub returns-clause-made : goal.returns-clause-made
returns-clause-made g c told db held =
    let laws : Laws = record { finds = c.listed_tables_are_found.ensures.finds; others = c.views_come_and_go.ensures.others; stand = c.table_trees_stand.ensures; give_way = c.trees_give_way.ensures } in
    let l = listed_in c.args.catalog.now in
    let n = c.args.name.now in
    let v = c.in_ok-view.view.now in
    let found = c.in_ok-view.ensures.found in
    drops laws _ _ l db held n v found (g.P.Pages.map c.take_view_rows.new.pages)
    (c.in_ok-take_view_rows.ensures.taken told held.schema held.schema_used held.free (schema_stand laws _ _ l db held n v found) (rows_there laws _ _ l db held n v found)) (listed_in c.in_ok-left.left) c.in_ok-left.ensures.left
