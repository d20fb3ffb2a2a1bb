use Rattle.std.proofs.Common.{◌≡◌, false, rules}
use Rattle.catalog.specs.Listed.{listed_in}
use Rattle.executor.proofs.Deletions.{Laws, name_refused, taking_makes, where_refused}
use Rattle.executor.proofs.Insertions.{passed_on}
use Rattle.executor.proofs.deleting.delete_rows.Goals as goal
use Rattle.executor.specs.Refusing.{is_view_named}

pub returns-in_err-table-clause-made : goal.returns-in_err-table-clause-made
returns-in_err-table-clause-made g c told db held still =
    let laws : Laws = record {
      lists = c.other_rows_are_listed.ensures.lists;
      named = c.named_databases_are_one.ensures.named;
      binds = c.only_tables_set_nothing_off.ensures.binds;
      deletes = c.delete_sets_off_nothing.ensures.deletes;
      chosen = c.delete_sets_off_nothing.ensures.chosen;
    } in
    let plain : is_view_named (listed_in c.args.catalog.now) c.args.delete.now.table ≡ false = search rules in
    passed_on _ _ c.from_residual.result c.in_err-table.field-0.0 c.from_residual.ensures.1
    (name_refused laws _ _ (listed_in c.args.catalog.now) db held c.args.delete.now still plain c.in_err-table.field-0.0 c.in_err-table.ensures.refused)

pub returns-in_err-condition-clause-made : goal.returns-in_err-condition-clause-made
returns-in_err-condition-clause-made g c told db held still =
    let laws : Laws = record {
      lists = c.other_rows_are_listed.ensures.lists;
      named = c.named_databases_are_one.ensures.named;
      binds = c.only_tables_set_nothing_off.ensures.binds;
      deletes = c.delete_sets_off_nothing.ensures.deletes;
      chosen = c.delete_sets_off_nothing.ensures.chosen;
    } in
    let plain : is_view_named (listed_in c.args.catalog.now) c.args.delete.now.table ≡ false = search rules in
    passed_on _ _ c.from_residual-in_err-condition.result c.in_err-condition.field-0.0 c.from_residual-in_err-condition.ensures.1
    (where_refused laws _ _ (listed_in c.args.catalog.now) db held c.args.delete.now still plain c.in_ok-table.table.now c.in_ok-table.ensures.found c.in_err-condition.field-0.0 c.in_err-condition.ensures.named)

pub returns-clause-made : goal.returns-clause-made
returns-clause-made g c told db held still =
    let laws : Laws = record {
      lists = c.other_rows_are_listed.ensures.lists;
      named = c.named_databases_are_one.ensures.named;
      binds = c.only_tables_set_nothing_off.ensures.binds;
      deletes = c.delete_sets_off_nothing.ensures.deletes;
      chosen = c.delete_sets_off_nothing.ensures.chosen;
    } in
    let plain : is_view_named (listed_in c.args.catalog.now) c.args.delete.now.table ≡ false = search rules in
    taking_makes laws _ _ (listed_in c.args.catalog.now) db held c.args.delete.now still plain c.in_ok-table.table.now c.in_ok-table.ensures.found
    c.in_ok-condition.condition c.in_ok-condition.ensures.named _ c.delete_rows.result (c.delete_rows.ensures.deleted told)

pub returns-then-is_view-clause-made : goal.returns-then-is_view-clause-made
returns-then-is_view-clause-made g c told db held still =
    c.refuse_delete.ensures.refused held.rows_at db held.of_listed still (search rules)
