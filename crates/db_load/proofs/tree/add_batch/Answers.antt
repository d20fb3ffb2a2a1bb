use Rattle.std.proofs.lemmas.Int.{to_z-of_z}
use Rattle.std.proofs.Common.{rules, SFits, w64, refl, sym, ap, subst, ◌+◌, ◌<◌, List, ◌++◌, length, drop, take, arith}
use Rattle.std.proofs.lemmas.List.{take_all}
use Rattle.tree_leaf.specs.Leaf.{Entry}
use Rattle.tree_table.specs.Scanning.{entry_in}
use Rattle.catalog.specs.Listed.{listed_in}
use Rattle.db_load.specs.Reading.{Finds, IsLoading}
use Rattle.db_load.proofs.RowPasses.{row_comes}
use Rattle.db_load.proofs.SchemaTables.{at_place, past_all, up_to}
use Rattle.db_load.proofs.TreeTables.{finds_one, memory_passed}
use Rattle.db_load.proofs.tree.add_batch.Goals as goal

pub rows-init : goal.rows-init
rows-init c = (λ listed after sound is. is, refl)

pub rows-preserved : goal.rows-preserved
rows-preserved c =
    let fits : SFits w64 c.row-row.result.rowid = search rules in
    let at = sym (to_z-of_z w64 c.row-row.result.rowid fits) in
    let row : Entry = entry_in c.row-row.result in
    let old = listed_in c.rows.catalog in
    let there : c.rows.index < length c.args.batch.now = omega (arith, c.rows-test.true, c.len-index-end.ensures) in (
      λ listed after sound is.
          let next = row_comes c.args.tables c.args.size listed row (drop c.rows.index c.args.batch.now ++ after) (drop (c.rows.index + 1) c.args.batch.now ++ after) old sound
          (ap (λ es. es ++ after) (at_place c.args.batch.now c.rows.index row there c.row-row.ensures)) (c.rows.invariant.0 listed after sound is) in
          next.goes_on (listed_in c.add_row.new.catalog) (c.in_ok-add_row.ensures.tells next.item row at refl next.tells next.can),
      finds_one c.args.tables c.args.size (take c.rows.index c.args.batch.now) (take (c.rows.index + 1) c.args.batch.now) row (listed_in c.args.catalog.now) old (listed_in c.add_row.new.catalog)
          (up_to c.args.batch.now c.rows.index row there c.row-row.ensures) c.rows.invariant.1 (c.in_ok-add_row.ensures.found row at refl),
    )

pub returns-in_err-add_row-clause-loaded : goal.returns-in_err-add_row-clause-loaded
returns-in_err-add_row-clause-loaded c = λ listed after sound is.
    (let fits : SFits w64 c.row-row.result.rowid = search rules in
    let at = sym (to_z-of_z w64 c.row-row.result.rowid fits) in
    let row : Entry = entry_in c.row-row.result in
    let old = listed_in c.rows.catalog in
    let there : c.rows.index < length c.args.batch.now = omega (arith, c.rows-test.true, c.len-index-end.ensures) in
    let next = row_comes c.args.tables c.args.size listed row (drop c.rows.index c.args.batch.now ++ after) (drop (c.rows.index + 1) c.args.batch.now ++ after) old sound
    (ap (λ es. es ++ after) (at_place c.args.batch.now c.rows.index row there c.row-row.ensures)) (c.rows.invariant.0 listed after sound is) in
    memory_passed _ c.from_residual.result c.in_err-add_row.field-0.0 c.from_residual.ensures.1 (c.in_err-add_row.ensures.tells next.item row at refl next.tells next.can))

pub returns-clause-loaded : goal.returns-clause-loaded
returns-clause-loaded c = λ listed after sound is.
    subst (λ (es : List Entry). IsLoading c.args.tables c.args.size listed (es ++ after) (listed_in c.rows.catalog)) (past_all c.args.batch.now c.rows.index (omega (arith, c.rows-test.false, c.len-index-end.ensures)))
    (c.rows.invariant.0 listed after sound is)

pub returns-clause-told : goal.returns-clause-told
returns-clause-told c =
    subst (λ (es : List Entry). Finds c.args.tables c.args.size es (listed_in c.args.catalog.now) (listed_in c.rows.catalog)) (take_all c.rows.index c.args.batch.now (omega (arith, c.rows-test.false, c.len-index-end.ensures)))
    c.rows.invariant.1
