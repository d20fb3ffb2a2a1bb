use Rattle.std.proofs.Common.{◌≡◌}
use Rattle.catalog.specs.Listed.{own_column}
use Rattle.row_change.specs.NewRows.{IsWritten, entry_in, row_of}
use Rattle.row_change.proofs.Records.{at_own}
use Rattle.row_change.proofs.PutRows.{added_holds, none_made, none_put, none_written, put_failed, put_so}
use Rattle.row_change.proofs.putting.put_new_row.Goals as goal

-- the row is refused
pub returns-in_err-row-clause-put : goal.returns-in_err-row-clause-put
returns-in_err-row-clause-put g c = λ told.
    (let pages = g.P.Pages in
    let old = pages.map c.args.pages.now in
    let size = (pages.limits (pages.below c.args.pages.now)).page in
    let table = c.args.table.now in
    let fault = c.in_err-row.field-0.0 in
    none_put old old size table.root table c.args.places.now c.args.given.now c.args.last fault c.from_residual.result c.from_residual.ensures.1
    (none_made old old size table.root table c.args.places.now c.args.given.now c.args.last fault c.in_err-row.ensures.added))

-- memory is short for its record
pub returns-in_err-written-clause-put : goal.returns-in_err-written-clause-put
returns-in_err-written-clause-put g c = λ told.
    (let pages = g.P.Pages in
    let old = pages.map c.args.pages.now in
    let size = (pages.limits (pages.below c.args.pages.now)).page in
    let table = c.args.table.now in
    let fault = c.in_err-written.field-0.0 in
    none_put old old size table.root table c.args.places.now c.args.given.now c.args.last fault c.from_residual-in_err-written.result c.from_residual-in_err-written.ensures.1
    (none_written old old size table.root table c.args.places.now c.args.given.now c.args.last (row_of c.in_ok-row.row) c.in_ok-row.ensures.added fault c.in_err-written.ensures.refused))

-- the tree doesn't take it
pub returns-in_err-put_record-clause-put : goal.returns-in_err-put_record-clause-put
returns-in_err-put_record-clause-put g c = λ told.
    (let pages = g.P.Pages in
    let old = pages.map c.args.pages.now in
    let new = pages.map c.put_record.new.pages in
    let size = (pages.limits (pages.below c.args.pages.now)).page in
    let table = c.args.table.now in
    let row = row_of c.in_ok-row.row in
    let holds = added_holds table c.args.places.now c.args.last c.args.given.now row c.in_ok-row.ensures.added in
    let written = at_own (λ own. IsWritten own row (entry_in c.in_ok-written.written)) c.own_column.result (own_column table) row c.own_column.ensures c.in_ok-written.ensures.written holds in
    put_failed old new size table.root table c.args.places.now c.args.given.now c.args.last row c.in_ok-row.ensures.added
    (entry_in c.in_ok-written.written) written c.in_err-put_record.field-0.0 c.from_residual-in_err-put_record.result c.from_residual-in_err-put_record.ensures.1
    (c.in_err-put_record.ensures.put told))

pub returns-clause-put : goal.returns-clause-put
returns-clause-put g c = λ told.
    (let pages = g.P.Pages in
    let old = pages.map c.args.pages.now in
    let new = pages.map c.put_record.new.pages in
    let size = (pages.limits (pages.below c.args.pages.now)).page in
    let table = c.args.table.now in
    let row = row_of c.in_ok-row.row in
    let holds = added_holds table c.args.places.now c.args.last c.args.given.now row c.in_ok-row.ensures.added in
    let written = at_own (λ own. IsWritten own row (entry_in c.in_ok-written.written)) c.own_column.result (own_column table) row c.own_column.ensures c.in_ok-written.ensures.written holds in
    let kept = at_own (λ own. row_of c.record_for.new.row ≡ row) c.own_column.result (own_column table) row c.own_column.ensures c.in_ok-written.ensures.kept holds in
    put_so old new size table.root table c.args.places.now c.args.given.now c.args.last row c.in_ok-row.ensures.added (entry_in c.in_ok-written.written) c.record_for.new.row written kept (c.in_ok-put_record.ensures.put told))
