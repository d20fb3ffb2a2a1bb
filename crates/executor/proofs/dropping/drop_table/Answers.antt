use Rattle.std.proofs.Common.{sym, subst, inl, Ok, Err, IsTrue}
use Rattle.catalog.specs.Listed.{listed_in}
use Rattle.db_write.specs.Changing.{DropsTrees}
use Rattle.executor.proofs.Answering.{handed_on}
use Rattle.executor.proofs.Droppings.{Laws, drops, no_table, not_given, rows_there, schema_stand}
use Rattle.executor.proofs.dropping.drop_table.Goals as goal

pub returns-in_err-table-clause-made : goal.returns-in_err-table-clause-made
returns-in_err-table-clause-made g c told db held =
    handed_on _ _ c.from_residual.result c.in_err-table.field-0.0 c.from_residual.ensures.1
    (no_table c.listed_tables_are_found.ensures.finds _ _ (listed_in c.args.catalog.now) db held c.args.name.now c.in_err-table.field-0.0 c.in_err-table.ensures.refused)

pub returns-in_err-take_all_rows-clause-made : goal.returns-in_err-take_all_rows-clause-made
returns-in_err-take_all_rows-clause-made g c told db held =
    let laws : Laws = record { others = c.other_tables_are_listed.ensures; finds = c.listed_tables_are_found.ensures.finds; stand = c.table_trees_stand.ensures; give_way = c.trees_give_way.ensures } in
    let l = listed_in c.args.catalog.now in
    let n = c.args.name.now in
    let t = c.in_ok-table.table.now in
    let named = c.in_ok-table.ensures.found in
    handed_on _ _ c.from_residual-in_err-take_all_rows.result c.in_err-take_all_rows.field-0.0 c.from_residual-in_err-take_all_rows.ensures.1
    (inl (c.in_err-take_all_rows.ensures.taken told held.schema held.schema_used held.free (schema_stand laws _ _ l db held n t named) (rows_there laws _ _ l db held n t named)))

pub returns-in_err-drop_trees-clause-made : goal.returns-in_err-drop_trees-clause-made
returns-in_err-drop_trees-clause-made g c told db held =
    let laws : Laws = record { others = c.other_tables_are_listed.ensures; finds = c.listed_tables_are_found.ensures.finds; stand = c.table_trees_stand.ensures; give_way = c.trees_give_way.ensures } in
    let l = listed_in c.args.catalog.now in
    let n = c.args.name.now in
    let t = c.in_ok-table.table.now in
    let named = c.in_ok-table.ensures.found in
    let pages = g.P.Pages in
    let mid = pages.map c.take_all_rows.new.pages in
    let new = pages.map c.drop_trees.new.pages in
    let f = c.in_err-drop_trees.field-0.0 in
    let becomes = c.in_ok-take_all_rows.ensures.taken told held.schema held.schema_used held.free (schema_stand laws _ _ l db held n t named) (rows_there laws _ _ l db held n t named) in
    let told_then = subst (λ k. IsTrue (pages.tells k)) (sym c.take_all_rows.ensures.kept) told in
    let gives = subst (λ k. DropsTrees mid new (pages.limits k).page t (Err f)) c.take_all_rows.ensures.kept (c.in_err-drop_trees.ensures.dropped told_then) in
    handed_on _ _ c.from_residual-in_err-drop_trees.result f c.from_residual-in_err-drop_trees.ensures.1
    (not_given laws _ _ l db held n t named mid becomes new f gives)

pub returns-clause-made : goal.returns-clause-made
returns-clause-made g c told db held =
    let laws : Laws = record { others = c.other_tables_are_listed.ensures; finds = c.listed_tables_are_found.ensures.finds; stand = c.table_trees_stand.ensures; give_way = c.trees_give_way.ensures } in
    let l = listed_in c.args.catalog.now in
    let n = c.args.name.now in
    let t = c.in_ok-table.table.now in
    let named = c.in_ok-table.ensures.found in
    let pages = g.P.Pages in
    let mid = pages.map c.take_all_rows.new.pages in
    let new = pages.map c.drop_trees.new.pages in
    let becomes = c.in_ok-take_all_rows.ensures.taken told held.schema held.schema_used held.free (schema_stand laws _ _ l db held n t named) (rows_there laws _ _ l db held n t named) in
    let told_then = subst (λ k. IsTrue (pages.tells k)) (sym c.take_all_rows.ensures.kept) told in
    let gives = subst (λ k. DropsTrees mid new (pages.limits k).page t (Ok tt)) c.take_all_rows.ensures.kept (c.in_ok-drop_trees.ensures.dropped told_then) in
    drops laws _ _ l db held n t named mid becomes new gives (listed_in c.in_ok-left.left) c.in_ok-left.ensures.left
