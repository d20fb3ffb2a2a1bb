use Rattle.std.proofs.Common.{rules, ◌≡◌, ◌∙◌, Ok, Err, SFits, ap, subst, sym, to_z, w64}
use Rattle.std.proofs.lemmas.Int.{to_z-of_z}
use Rattle.catalog.specs.Listed.{own_column}
use Rattle.query_terms.specs.Rows.{row_at}
use Rattle.row_change.specs.NewRows.{IsWritten, entry_in, row_of}
use Rattle.row_change.specs.Updating.{SetsRow}
use Rattle.row_change.proofs.Records.{at_own}
use Rattle.row_change.proofs.SetTrees.{not_set, not_written, set_after, set_so, sets_moved, sets_replaced, source_holds}
use Rattle.row_change.proofs.updating.set_row.Goals as goal
use Rattle.row_change.proofs.updating.set_row.Goals.{then-written-gone+in_ok-replace_record, else-written-gone+in_ok-move_record}

-- memory is short for its record
pub returns-in_err-written-clause-set : goal.returns-in_err-written-clause-set
returns-in_err-written-clause-set g c = λ told.
    (let pages = g.P.Pages in
    let table = c.args.table.now in
    let source = row_at c.args.rows.now c.args.place in
    let old = pages.map c.args.pages.now in
    let size = (pages.limits (pages.below c.args.pages.now)).page in
    let fault = c.in_err-written.field-0.0 in
    not_set table c.args.sets.now source old old size table.root fault c.from_residual-in_err-written.result c.from_residual-in_err-written.ensures.1
    (not_written table c.args.sets.now source old old size table.root (row_of c.in_ok-new.new) c.in_ok-new.ensures.set fault c.in_err-written.ensures.refused))

-- the tree doesn't take it in its place
pub returns-in_err-replace_record-clause-set : goal.returns-in_err-replace_record-clause-set
returns-in_err-replace_record-clause-set g c = λ told.
    (let pages = g.P.Pages in
    let table = c.args.table.now in
    let source = row_at c.args.rows.now c.args.place in
    let old = pages.map c.args.pages.now in
    let new = pages.map c.replace_record.new.pages in
    let size = (pages.limits (pages.below c.args.pages.now)).page in
    let fault = c.in_err-replace_record.field-0.0 in
    let rowid = c.in_ok-written.written.rowid in
    let gone = c.rowid_at-gone.result in
    let fits : SFits w64 rowid = search rules in
    let gone_fits : SFits w64 gone = search rules in
    let same : rowid ≡ gone = sym (to_z-of_z w64 rowid fits) ∙ (ap (to_z w64) c.if-written-gone.true ∙ to_z-of_z w64 gone gone_fits) in
    let x = row_of c.in_ok-new.new in
    let m = entry_in c.in_ok-written.written in
    let holds = source_holds table c.args.sets.now source old new size table.root x c.in_ok-new.ensures.set in
    let written = at_own (λ own. IsWritten own x m) c.own_column.result (own_column table) x c.own_column.ensures c.in_ok-written.ensures.written holds in
    set_after table c.args.sets.now source old new size table.root x c.in_ok-new.ensures.set fault c.from_residual-in_err-replace_record.result c.from_residual-in_err-replace_record.ensures.1
    (sets_replaced table c.args.sets.now source old new size table.root x c.in_ok-new.ensures.set m written (Err fault) (same ∙ c.rowid_at-gone.ensures) (c.in_err-replace_record.ensures.replaced told)))

-- nor in another
pub returns-in_err-move_record-clause-set : goal.returns-in_err-move_record-clause-set
returns-in_err-move_record-clause-set g c = λ told.
    (let pages = g.P.Pages in
    let table = c.args.table.now in
    let source = row_at c.args.rows.now c.args.place in
    let old = pages.map c.args.pages.now in
    let new = pages.map c.move_record.new.pages in
    let size = (pages.limits (pages.below c.args.pages.now)).page in
    let fault = c.in_err-move_record.field-0.0 in
    let gone = c.rowid_at-gone.result in
    let fits : SFits w64 gone = search rules in
    let x = row_of c.in_ok-new.new in
    let m = entry_in c.in_ok-written.written in
    let holds = source_holds table c.args.sets.now source old new size table.root x c.in_ok-new.ensures.set in
    let written = at_own (λ own. IsWritten own x m) c.own_column.result (own_column table) x c.own_column.ensures c.in_ok-written.ensures.written holds in
    set_after table c.args.sets.now source old new size table.root x c.in_ok-new.ensures.set fault c.from_residual-in_err-move_record.result c.from_residual-in_err-move_record.ensures.1
    (sets_moved table c.args.sets.now source old new size table.root x c.in_ok-new.ensures.set m written _ (Err fault) (to_z-of_z w64 gone fits ∙ c.rowid_at-gone.ensures) (c.in_err-move_record.ensures.moved told)))

pub returns-clause-set : goal.returns-clause-set
returns-clause-set g c = λ told.
    (let pages = g.P.Pages in
    let table = c.args.table.now in
    let sets = c.args.sets.now in
    let source = row_at c.args.rows.now c.args.place in
    let old = pages.map c.args.pages.now in
    let size = (pages.limits (pages.below c.args.pages.now)).page in
    let x = row_of c.in_ok-new.new in
    let m = entry_in c.in_ok-written.written in
    let holds = source_holds table sets source old old size table.root x c.in_ok-new.ensures.set in
    let written = at_own (λ own. IsWritten own x m) c.own_column.result (own_column table) x c.own_column.ensures c.in_ok-written.ensures.written holds in
    let kept = at_own (λ own. row_of c.record_for.new.row ≡ x) c.own_column.result (own_column table) x c.own_column.ensures c.in_ok-written.ensures.kept holds in
    let rowid = c.in_ok-written.written.rowid in
    let gone = c.rowid_at-gone.result in
    let fits : SFits w64 rowid = search rules in
    let gone_fits : SFits w64 gone = search rules in
    let so : SetsRow old (pages.map c.if-written-gone.pages) size table.root table sets source (Ok c.record_for.new.row) = elim c.if-written-gone.branch [
      | then-written-gone+in_ok-replace_record w ↦
          (let new = pages.map w.replace_record.new.pages in
          subst (λ p. SetsRow old (pages.map p) size table.root table sets source (Ok c.record_for.new.row)) (sym w.pages-is)
          (set_so table sets source old new size table.root x c.in_ok-new.ensures.set c.record_for.new.row kept
          (sets_replaced table sets source old new size table.root x c.in_ok-new.ensures.set m written (Ok tt) (sym (to_z-of_z w64 rowid fits) ∙ (ap (to_z w64) w.if-written-gone.true ∙ (to_z-of_z w64 gone gone_fits ∙ c.rowid_at-gone.ensures))) (w.in_ok-replace_record.ensures.replaced told))))
      | else-written-gone+in_ok-move_record w ↦
          (let new = pages.map w.move_record.new.pages in
          subst (λ p. SetsRow old (pages.map p) size table.root table sets source (Ok c.record_for.new.row)) (sym w.pages-is)
          (set_so table sets source old new size table.root x c.in_ok-new.ensures.set c.record_for.new.row kept
          (sets_moved table sets source old new size table.root x c.in_ok-new.ensures.set m written _ (Ok tt) (to_z-of_z w64 gone gone_fits ∙ c.rowid_at-gone.ensures) (w.in_ok-move_record.ensures.moved told))))
    ] in
    so)
