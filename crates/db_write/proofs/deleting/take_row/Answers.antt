use Rattle.std.proofs.Common.{rules, [], ◌∷◌, SFits, subst, w64, ℕ, ℤ, List, Ok, Err}
use Rattle.std.proofs.lemmas.Int.{to_z-of_z}
use Rattle.catalog.specs.declared.tables.Index.{Index}
use Rattle.tree_table.specs.Calls.{RemovesRow}
use Rattle.index_entries.specs.Keeping.{row_in}
use Rattle.db_write.specs.Turning.{TakesFromIndexes}
use Rattle.db_write.proofs.Looping.{since}
use Rattle.db_write.proofs.TakenRow.{row_taken, row_untaken}
use Rattle.db_write.proofs.deleting.take_row.Goals as goal

pub returns-in_err-remove-clause-taken : goal.returns-in_err-remove-clause-taken
returns-in_err-remove-clause-taken g c = λ told.
    (let pages = g.P.Pages in
    let old = pages.map c.args.pages.now in
    let mid = pages.map c.remove.new.pages in
    let size = (pages.limits (pages.below c.args.pages.now)).page in
    let table = c.args.table.now in
    let row = c.args.row.now in
    let fault = c.in_err-remove.field-0.0 in
    let fits : SFits w64 row.rowid = search rules in
    row_untaken old mid size table (row_in row) fault c.from_residual.result c.from_residual.ensures.1
    (subst (λ (n : ℤ). RemovesRow old mid size table.root n (Err fault)) (to_z-of_z w64 row.rowid fits) (c.in_err-remove.ensures.removed told)))

pub returns-clause-taken : goal.returns-clause-taken
returns-clause-taken g c = λ told.
    (let pages = g.P.Pages in
    let start = c.args.pages.now in
    let old = pages.map start in
    let mid = c.remove.new.pages in
    let new = pages.map c.take_row_from_indexes.new.pages in
    let size = (pages.limits (pages.below start)).page in
    let table = c.args.table.now in
    let row = c.args.row.now in
    let there = c.in_ok-remove.field-0 in
    let result = c.take_row_from_indexes.result in
    let fits : SFits w64 row.rowid = search rules in
    let takes = since pages.below pages.tells pages.limits start mid (λ (n : ℕ). TakesFromIndexes (pages.map mid) new n c.as_slice.result.now (row_in row ∷ []) result)
    c.in_ok-remove.ensures.kept c.take_row_from_indexes.ensures.taken told in
    row_taken old (pages.map mid) size table (row_in row) new there result
    (subst (λ (n : ℤ). RemovesRow old (pages.map mid) size table.root n (Ok there)) (to_z-of_z w64 row.rowid fits) (c.in_ok-remove.ensures.removed told))
    (subst (λ (them : List Index). TakesFromIndexes (pages.map mid) new size them (row_in row ∷ []) result) c.as_slice.ensures takes))
