use Rattle.std.proofs.Common.{inl, refl, true, false, [], Ok, Err, ap, sym, ◌∙◌}
use Rattle.std.specs.List.{list_all}
use Rattle.tree_check.proofs.Parting.{told_after}
use Rattle.tree_check.specs.Exact.{AreTold}
use Rattle.catalog.specs.Listed.{listed_in}
use Rattle.db_load.specs.Reading.{AreIndexed, FindsRows, IsLoading, LoadsRows, has_all_keys}
use Rattle.db_load.proofs.KeyIndexes.{have_keys}
use Rattle.db_load.proofs.KeyTotals.{alike_keys}
use Rattle.db_load.proofs.RowPasses.{all_listed, first_begins, second_begins}
use Rattle.db_load.proofs.RowsFound.{rows_columns, rows_once, rows_tell}
use Rattle.db_load.proofs.SchemaTables.{err_not_ok}
use Rattle.db_load.proofs.TableChecks.{told_as}
use Rattle.db_load.proofs.ToldParts.{named_apart}
use Rattle.db_load.proofs.TreeTables.{outside_passed}
use Rattle.db_load.proofs.TriggerTargets.{alike_once, alike_targets}
use Rattle.db_load.proofs.tree.load_schema.Goals as goal

pub returns-in_err-add_rows-clause-loaded : goal.returns-in_err-add_rows-clause-loaded
returns-in_err-add_rows-clause-loaded g c = λ told all rows used whole tree tell once keys targets.
    (let indexed : AreIndexed all = record { sound = record { columns = rows_columns c.args.size all rows tell; named = once }; keys = keys } in
    outside_passed _ c.from_residual.result c.in_err-add_rows.field-0.0 c.from_residual.ensures.1
    (c.in_err-add_rows.ensures.loaded told all rows used whole tree indexed (first_begins c.args.size all rows (listed_in c.empty-catalog.result) c.empty-catalog.ensures tell)))

pub returns-in_err-add_rows-2-clause-loaded : goal.returns-in_err-add_rows-2-clause-loaded
returns-in_err-add_rows-2-clause-loaded g c = λ told all rows used whole tree tell once keys targets.
    (let p = g.P.Pages in
    let old = c.args.pages.now in
    let map = p.map old in
    let page = (p.limits (p.below old)).page in
    let fault = c.in_err-add_rows-2.field-0.0 in
    let indexed : AreIndexed all = record { sound = record { columns = rows_columns c.args.size all rows tell; named = once }; keys = keys } in
    let mid : IsLoading true c.args.size all [] (listed_in c.add_rows.new.catalog) =
    c.in_ok-add_rows.ensures.loaded told all rows used whole tree indexed (first_begins c.args.size all rows (listed_in c.empty-catalog.result) c.empty-catalog.ensures tell) in
    let stays = c.in_ok-add_rows.ensures.stays in
    let before : AreTold p.below p.tells p.limits p.map old map page = record { told = told; map_is = refl; size_is = refl } in
    let now = told_after p.below p.tells p.limits p.map old c.add_rows.new.pages map page stays.kept stays.same before in
    outside_passed _ c.from_residual-in_err-add_rows-2.result fault c.from_residual-in_err-add_rows-2.ensures.1
    (told_as p.below p.tells p.limits p.map c.add_rows.new.pages map page (λ m n. LoadsRows false m n c.args.size (listed_in c.add_rows.new.catalog) (listed_in c.add_rows-2.new.catalog) (Err fault)) now c.in_err-add_rows-2.ensures.loaded
    all rows used whole tree indexed (second_begins c.args.size all rows (listed_in c.add_rows.new.catalog) tell mid)))

pub returns-in_err-check_keys-clause-loaded : goal.returns-in_err-check_keys-clause-loaded
returns-in_err-check_keys-clause-loaded g c = λ told all rows used whole tree tell once keys targets.
    (let p = g.P.Pages in
    let old = c.args.pages.now in
    let map = p.map old in
    let page = (p.limits (p.below old)).page in
    let indexed : AreIndexed all = record { sound = record { columns = rows_columns c.args.size all rows tell; named = once }; keys = keys } in
    let mid : IsLoading true c.args.size all [] (listed_in c.add_rows.new.catalog) =
    c.in_ok-add_rows.ensures.loaded told all rows used whole tree indexed (first_begins c.args.size all rows (listed_in c.empty-catalog.result) c.empty-catalog.ensures tell) in
    let stays = c.in_ok-add_rows.ensures.stays in
    let before : AreTold p.below p.tells p.limits p.map old map page = record { told = told; map_is = refl; size_is = refl } in
    let now = told_after p.below p.tells p.limits p.map old c.add_rows.new.pages map page stays.kept stays.same before in
    let alike = all_listed c.args.size all (listed_in c.add_rows-2.new.catalog)
    (told_as p.below p.tells p.limits p.map c.add_rows.new.pages map page (λ m n. LoadsRows false m n c.args.size (listed_in c.add_rows.new.catalog) (listed_in c.add_rows-2.new.catalog) (Ok tt)) now c.in_ok-add_rows-2.ensures.loaded
    all rows used whole tree indexed (second_begins c.args.size all rows (listed_in c.add_rows.new.catalog) tell mid)) in
    err_not_ok _ _
    (c.in_err-check_keys.ensures.only
    (ap (list_all has_all_keys) c.tables.ensures ∙ alike_keys all (listed_in c.add_rows-2.new.catalog) alike (named_apart all once) keys)))

pub returns-in_err-check_targets-clause-loaded : goal.returns-in_err-check_targets-clause-loaded
returns-in_err-check_targets-clause-loaded g c = λ told all rows used whole tree tell once keys targets.
    (let p = g.P.Pages in
    let old = c.args.pages.now in
    let map = p.map old in
    let page = (p.limits (p.below old)).page in
    let indexed : AreIndexed all = record { sound = record { columns = rows_columns c.args.size all rows tell; named = once }; keys = keys } in
    let mid : IsLoading true c.args.size all [] (listed_in c.add_rows.new.catalog) =
    c.in_ok-add_rows.ensures.loaded told all rows used whole tree indexed (first_begins c.args.size all rows (listed_in c.empty-catalog.result) c.empty-catalog.ensures tell) in
    let stays = c.in_ok-add_rows.ensures.stays in
    let before : AreTold p.below p.tells p.limits p.map old map page = record { told = told; map_is = refl; size_is = refl } in
    let now = told_after p.below p.tells p.limits p.map old c.add_rows.new.pages map page stays.kept stays.same before in
    let alike = all_listed c.args.size all (listed_in c.add_rows-2.new.catalog)
    (told_as p.below p.tells p.limits p.map c.add_rows.new.pages map page (λ m n. LoadsRows false m n c.args.size (listed_in c.add_rows.new.catalog) (listed_in c.add_rows-2.new.catalog) (Ok tt)) now c.in_ok-add_rows-2.ensures.loaded
    all rows used whole tree indexed (second_begins c.args.size all rows (listed_in c.add_rows.new.catalog) tell mid)) in
    let now_listed = listed_in c.add_rows-2.new.catalog in
    outside_passed _ c.from_residual-in_err-check_targets.result c.in_err-check_targets.field-0.0 c.from_residual-in_err-check_targets.ensures.1
    (inl (c.in_err-check_targets.ensures.only (alike_once c.args.size all now_listed rows tell alike)
    (alike_targets c.triggers_are_created_as_defined.ensures.knows all now_listed once alike targets))))

pub returns-clause-loaded : goal.returns-clause-loaded
returns-clause-loaded g c = λ told all rows used whole tree tell once keys targets.
    (let p = g.P.Pages in
    let old = c.args.pages.now in
    let map = p.map old in
    let page = (p.limits (p.below old)).page in
    let indexed : AreIndexed all = record { sound = record { columns = rows_columns c.args.size all rows tell; named = once }; keys = keys } in
    let mid : IsLoading true c.args.size all [] (listed_in c.add_rows.new.catalog) =
    c.in_ok-add_rows.ensures.loaded told all rows used whole tree indexed (first_begins c.args.size all rows (listed_in c.empty-catalog.result) c.empty-catalog.ensures tell) in
    let stays = c.in_ok-add_rows.ensures.stays in
    let before : AreTold p.below p.tells p.limits p.map old map page = record { told = told; map_is = refl; size_is = refl } in
    let now = told_after p.below p.tells p.limits p.map old c.add_rows.new.pages map page stays.kept stays.same before in
    all_listed c.args.size all (listed_in c.add_rows-2.new.catalog)
    (told_as p.below p.tells p.limits p.map c.add_rows.new.pages map page (λ m n. LoadsRows false m n c.args.size (listed_in c.add_rows.new.catalog) (listed_in c.add_rows-2.new.catalog) (Ok tt)) now c.in_ok-add_rows-2.ensures.loaded
    all rows used whole tree indexed (second_begins c.args.size all rows (listed_in c.add_rows.new.catalog) tell mid)))

pub returns-clause-told : goal.returns-clause-told
returns-clause-told g c = λ told rows used whole tree.
    (let p = g.P.Pages in
    let old = c.args.pages.now in
    let map = p.map old in
    let page = (p.limits (p.below old)).page in
    let new = listed_in c.add_rows-2.new.catalog in
    let stays = c.in_ok-add_rows.ensures.stays in
    let before : AreTold p.below p.tells p.limits p.map old map page = record { told = told; map_is = refl; size_is = refl } in
    let now = told_after p.below p.tells p.limits p.map old c.add_rows.new.pages map page stays.kept stays.same before in
    let tells = rows_tell c.bytes_determine_values.ensures c.args.size rows (listed_in c.empty-catalog.result) (listed_in c.add_rows.new.catalog) (listed_in c.add_rows-2.new.catalog) c.empty-catalog.ensures
    (c.in_ok-add_rows.ensures.told told rows used whole tree)
    (told_as p.below p.tells p.limits p.map c.add_rows.new.pages map page (λ m n. FindsRows false m n c.args.size (listed_in c.add_rows.new.catalog) (listed_in c.add_rows-2.new.catalog) (Ok tt)) now c.in_ok-add_rows-2.ensures.told
    rows used whole tree) in (
      tells.0,
      tells.1,
      have_keys new (named_apart new tells.1) tells.2 (ap (list_all has_all_keys) (sym c.tables.ensures) ∙ c.in_ok-check_keys.ensures.found),
      c.in_ok-check_targets.ensures.found (rows_once c.args.size new rows tells.0),
    ))
