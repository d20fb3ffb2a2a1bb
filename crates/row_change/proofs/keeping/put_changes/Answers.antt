use Rattle.row_change.proofs.KeptRows.{puts_kept}
use Rattle.row_change.proofs.keeping.put_changes.Goals as goal

pub returns-clause-put : goal.returns-clause-put
returns-clause-put g c = λ told.
    (let pages = g.P.Pages in
    puts_kept (pages.map c.args.pages.now) (pages.map c.change_rows.new.pages) (pages.limits (pages.below c.args.pages.now)).page c.args.table.now c.args.changes.now c.change_rows.result (c.change_rows.ensures.changed told))
