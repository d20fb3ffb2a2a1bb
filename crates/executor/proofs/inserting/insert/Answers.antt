use Rattle.std.proofs.Common.{◌≡◌, ◌∙◌, ap, map, length, false, rules}
use Rattle.catalog.specs.Listed.{listed_in}
use Rattle.db_write.specs.Changing.{InsertsInTrees}
use Rattle.executor.proofs.Insertions.{Laws, given_as, passed_on, places_long, put_makes, read_before, rows_refused, target_refused}
use Rattle.executor.proofs.inserting.insert.Goals as goal
use Rattle.executor.specs.Refusing.{is_view_named}

pub returns-in_err-target-clause-made : goal.returns-in_err-target-clause-made
returns-in_err-target-clause-made g c told db held still =
    let laws : Laws = record {
      lists = c.other_rows_are_listed.ensures.lists;
      named = c.named_databases_are_one.ensures.named;
      binds = c.only_tables_set_nothing_off.ensures.binds;
      refused = c.insert_sets_off_nothing.ensures.refused;
      inserts = c.insert_sets_off_nothing.ensures.inserts;
      none = c.insert_sets_off_nothing.ensures.none;
      indexes = c.listed_indexes_are_found.ensures;
    } in
    let plain : is_view_named (listed_in c.args.catalog.now) c.args.insert.now.table ≡ false = search rules in
    passed_on _ _ c.from_residual.result c.in_err-target.field-0.0 c.from_residual.ensures.1
    (target_refused laws _ _ (listed_in c.args.catalog.now) db held c.args.insert.now still plain c.in_err-target.field-0.0 c.in_err-target.ensures.refused)

pub returns-in_err-rows-clause-made : goal.returns-in_err-rows-clause-made
returns-in_err-rows-clause-made g c told db held still =
    let laws : Laws = record {
      lists = c.other_rows_are_listed.ensures.lists;
      named = c.named_databases_are_one.ensures.named;
      binds = c.only_tables_set_nothing_off.ensures.binds;
      refused = c.insert_sets_off_nothing.ensures.refused;
      inserts = c.insert_sets_off_nothing.ensures.inserts;
      none = c.insert_sets_off_nothing.ensures.none;
      indexes = c.listed_indexes_are_found.ensures;
    } in
    let plain : is_view_named (listed_in c.args.catalog.now) c.args.insert.now.table ≡ false = search rules in
    let target = c.in_ok-target.target in
    passed_on _ _ c.from_residual-in_err-rows.result c.in_err-rows.field-0.0 c.from_residual-in_err-rows.ensures.1
    (rows_refused laws _ _ (listed_in c.args.catalog.now) db held c.args.insert.now still plain target.table.now target.count c.in_ok-target.ensures.table c.in_ok-target.ensures.listed c.in_ok-target.ensures.count
    c.in_err-rows.field-0.0 (c.in_err-rows.ensures.given db told held))

pub returns-clause-made : goal.returns-clause-made
returns-clause-made g c told db held still =
    let i = c.args.insert.now in
    let target = c.in_ok-target.target in
    let t = target.table.now in
    let rows = map (λ row. row.items) c.in_ok-rows.rows.items in
    let l = listed_in c.args.catalog.now in
    let laws : Laws = record {
      lists = c.other_rows_are_listed.ensures.lists;
      named = c.named_databases_are_one.ensures.named;
      binds = c.only_tables_set_nothing_off.ensures.binds;
      refused = c.insert_sets_off_nothing.ensures.refused;
      inserts = c.insert_sets_off_nothing.ensures.inserts;
      none = c.insert_sets_off_nothing.ensures.none;
      indexes = c.listed_indexes_are_found.ensures;
    } in
    let plain : is_view_named (listed_in c.args.catalog.now) c.args.insert.now.table ≡ false = search rules in
    let given = c.in_ok-rows.ensures.given db told held in
    let is = given_as laws _ _ l db held i still plain t target.count c.in_ok-target.ensures.table c.in_ok-target.ensures.listed c.in_ok-target.ensures.count rows target.places.items
    c.in_ok-target.ensures.places given c.in_ok-rows.ensures.wide in
    let long : length target.places.items ≡ length t.columns = ap length c.in_ok-target.ensures.places ∙ places_long t.columns i.columns in
    let pages = g.P.Pages in
    let stays = c.in_ok-rows.ensures.stays in
    let new = pages.map c.insert_rows.new.pages in
    let puts = read_before pages.below pages.tells pages.limits pages.map (λ old size. InsertsInTrees old new size t target.places.items rows c.insert_rows.result)
    c.args.pages.now c.given_rows.new.pages stays.kept stays.same c.insert_rows.ensures.inserted told in
    put_makes laws _ _ l db held i t target.places.items rows c.in_ok-target.ensures.table still is long new c.insert_rows.result puts

pub returns-then-is_view-clause-made : goal.returns-then-is_view-clause-made
returns-then-is_view-clause-made g c told db held still =
    c.refuse_insert.ensures.refused held.rows_at db held.of_listed still (search rules)
