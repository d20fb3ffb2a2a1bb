use Rattle.db_write.proofs.InsertedRows.{only_come, only_stopped}
use Rattle.db_write.proofs.inserting.insert_only.Goals as goal

pub returns-in_err-insert_row-clause-inserted : goal.returns-in_err-insert_row-clause-inserted
returns-in_err-insert_row-clause-inserted g c = λ told.
    (let pages = g.P.Pages in
    only_stopped (pages.map c.args.pages.now) (pages.limits (pages.below c.args.pages.now)).page c.args.table.now c.args.places.now c.args.given.now (pages.map c.insert_row.new.pages)
    c.in_err-insert_row.field-0.0 c.from_residual.result c.from_residual.ensures.1 (c.in_err-insert_row.ensures.inserted told))

pub returns-clause-inserted : goal.returns-clause-inserted
returns-clause-inserted g c = λ told.
    (let pages = g.P.Pages in
    only_come (pages.map c.args.pages.now) (pages.limits (pages.below c.args.pages.now)).page c.args.table.now c.args.places.now c.args.given.now (pages.map c.insert_row.new.pages)
    c.in_ok-insert_row.field-0 (c.in_ok-insert_row.ensures.inserted told))
