use Rattle.executor.proofs.RowsInStores.{Laws, inserts_into}
use Rattle.executor.proofs.rows.insert_row.Goals as goal

pub returns-clause-inserted : goal.returns-clause-inserted
returns-clause-inserted g c = λ told.
    (let pages = g.P.Pages in
    let laws : Laws = record { lists = c.other_rows_are_listed.ensures.lists; named = c.named_databases_are_one.ensures.named } in
    inserts_into laws c.listed_indexes_are_found.ensures (pages.map c.args.pages.now) (pages.map c.insert_row.new.pages) (pages.limits (pages.below c.args.pages.now)).page c.args.table.now c.args.places.now c.args.given.now
    c.insert_row.result (c.insert_row.ensures.inserted told))
