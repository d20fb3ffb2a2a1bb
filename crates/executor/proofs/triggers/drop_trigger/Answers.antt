use Rattle.std.proofs.lemmas.Int.{to_z-of_z}
use Rattle.std.proofs.Common.{rules, SFits, w64, ◌∙◌, ap, sym, subst, inl, Ok, Err}
use Rattle.catalog.specs.Listed.{listed_in}
use Rattle.catalog.specs.NewViews.{less_trigger}
use Rattle.executor.specs.Listing.{TakesSchemaRow}
use Rattle.executor.proofs.Answering.{handed_on}
use Rattle.executor.proofs.TriggerDroppings.{Laws, drops, no_trigger, row_there, schema_stand}
use Rattle.executor.proofs.triggers.drop_trigger.Goals as goal

pub returns-in_err-trigger-clause-made : goal.returns-in_err-trigger-clause-made
returns-in_err-trigger-clause-made g c told db held =
    handed_on _ _ c.from_residual.result c.in_err-trigger.field-0.0 c.from_residual.ensures.1
    (no_trigger c.listed_tables_are_found.ensures.finds _ _ (listed_in c.args.catalog.now) db held c.args.name.now c.in_err-trigger.field-0.0 c.in_err-trigger.ensures.refused)

pub returns-in_err-take_row-clause-made : goal.returns-in_err-take_row-clause-made
returns-in_err-take_row-clause-made g c told db held =
    let laws : Laws = record { finds = c.listed_tables_are_found.ensures.finds; others = c.triggers_come_and_go.ensures.others; stand = c.table_trees_stand.ensures; give_way = c.trees_give_way.ensures } in
    let l = listed_in c.args.catalog.now in
    let n = c.args.name.now in
    let v = c.in_ok-trigger.trigger.now in
    let pages = g.P.Pages in
    let old = pages.map c.args.pages.now in
    let mid = pages.map c.take_row.new.pages in
    let size = (pages.limits (pages.below c.args.pages.now)).page in
    let f = c.in_err-take_row.field-0.0 in
    let fits : SFits w64 v.rowid = search rules in
    let takes = subst (λ z. TakesSchemaRow old mid size z (Err f)) (to_z-of_z w64 v.rowid fits) (c.in_err-take_row.ensures.taken told) in
    handed_on _ _ c.from_residual-in_err-take_row.result f c.from_residual-in_err-take_row.ensures.1
    (inl (takes held.schema held.schema_used held.free (schema_stand laws old size l db held n v c.in_ok-trigger.ensures.found) (row_there laws old size l db held n v c.in_ok-trigger.ensures.found)))

pub returns-clause-made : goal.returns-clause-made
returns-clause-made g c told db held =
    let laws : Laws = record { finds = c.listed_tables_are_found.ensures.finds; others = c.triggers_come_and_go.ensures.others; stand = c.table_trees_stand.ensures; give_way = c.trees_give_way.ensures } in
    let l = listed_in c.args.catalog.now in
    let n = c.args.name.now in
    let v = c.in_ok-trigger.trigger.now in
    let found = c.in_ok-trigger.ensures.found in
    let pages = g.P.Pages in
    let old = pages.map c.args.pages.now in
    let mid = pages.map c.take_row.new.pages in
    let size = (pages.limits (pages.below c.args.pages.now)).page in
    let fits : SFits w64 v.rowid = search rules in
    let takes = subst (λ z. TakesSchemaRow old mid size z (Ok tt)) (to_z-of_z w64 v.rowid fits) (c.in_ok-take_row.ensures.taken told) in
    drops laws old size l db held n v found mid (takes held.schema held.schema_used held.free (schema_stand laws old size l db held n v found) (row_there laws old size l db held n v found)) (listed_in c.in_ok-left.left)
    (c.in_ok-left.ensures.left ∙ ap (λ name. less_trigger name l) c.as_str.ensures)
