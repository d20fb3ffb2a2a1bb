use Rattle.row_change.specs.NewRows.{row_of}
use Rattle.executor.proofs.RowsInStores.{Laws, takes_from}
use Rattle.executor.proofs.rows.take_row.Goals as goal

pub returns-clause-taken : goal.returns-clause-taken
returns-clause-taken g c = λ told.
    (let pages = g.P.Pages in
    let laws : Laws = record { lists = c.other_rows_are_listed.ensures.lists; named = c.named_databases_are_one.ensures.named } in
    takes_from laws (pages.map c.args.pages.now) (pages.map c.take_row.new.pages) (pages.limits (pages.below c.args.pages.now)).page c.args.table.now (row_of c.args.row.now) c.take_row.result (c.take_row.ensures.taken told))
