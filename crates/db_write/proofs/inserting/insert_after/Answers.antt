use Rattle.std.proofs.Common.{ℕ, List, subst, Ok, Err}
use Rattle.catalog.specs.declared.tables.Index.{Index}
use Rattle.index_entries.specs.Keeping.{row_in}
use Rattle.db_write.specs.Turning.{AddsRowToIndexes}
use Rattle.db_write.proofs.InsertedRows.{none_put, row_come, row_stopped}
use Rattle.db_write.proofs.Looping.{since}
use Rattle.db_write.proofs.inserting.insert_after.Goals as goal

pub returns-in_err-row-clause-inserted : goal.returns-in_err-row-clause-inserted
returns-in_err-row-clause-inserted g c = λ told.
    (let pages = g.P.Pages in
    none_put (pages.map c.args.pages.now) (pages.map c.put_new_row.new.pages) (pages.limits (pages.below c.args.pages.now)).page c.args.table.now c.args.places.now c.args.given.now c.args.last
    c.in_err-row.field-0.0 c.from_residual.result c.from_residual.ensures.1 (c.in_err-row.ensures.put told))

pub returns-in_err-add_row_to_indexes-clause-inserted : goal.returns-in_err-add_row_to_indexes-clause-inserted
returns-in_err-add_row_to_indexes-clause-inserted g c = λ told.
    (let pages = g.P.Pages in
    let start = c.args.pages.now in
    let mid = c.put_new_row.new.pages in
    let new = pages.map c.add_row_to_indexes.new.pages in
    let size = (pages.limits (pages.below start)).page in
    let row = c.in_ok-row.row in
    let fault = c.in_err-add_row_to_indexes.field-0.0 in
    let adds = since pages.below pages.tells pages.limits start mid (λ (n : ℕ). AddsRowToIndexes (pages.map mid) new n c.as_slice.result.now (row_in row) (Err fault)) c.in_ok-row.ensures.kept c.in_err-add_row_to_indexes.ensures.added told in
    row_stopped (pages.map start) (pages.map mid) size c.args.table.now c.args.places.now c.args.given.now c.args.last row (c.in_ok-row.ensures.put told) new
    fault c.from_residual-in_err-add_row_to_indexes.result c.from_residual-in_err-add_row_to_indexes.ensures.1
    (subst (λ (them : List Index). AddsRowToIndexes (pages.map mid) new size them (row_in row) (Err fault)) c.as_slice.ensures adds))

pub returns-clause-inserted : goal.returns-clause-inserted
returns-clause-inserted g c = λ told.
    (let pages = g.P.Pages in
    let start = c.args.pages.now in
    let mid = c.put_new_row.new.pages in
    let new = pages.map c.add_row_to_indexes.new.pages in
    let size = (pages.limits (pages.below start)).page in
    let row = c.in_ok-row.row in
    let adds = since pages.below pages.tells pages.limits start mid (λ (n : ℕ). AddsRowToIndexes (pages.map mid) new n c.as_slice.result.now (row_in row) (Ok tt)) c.in_ok-row.ensures.kept c.in_ok-add_row_to_indexes.ensures.added told in
    row_come (pages.map start) (pages.map mid) size c.args.table.now c.args.places.now c.args.given.now c.args.last row (c.in_ok-row.ensures.put told) new
    (subst (λ (them : List Index). AddsRowToIndexes (pages.map mid) new size them (row_in row) (Ok tt)) c.as_slice.ensures adds))
