use Rattle.std.proofs.Common.{ℕ}
use Rattle.pages.specs.Map.{PageMap}
use Rattle.db_write.specs.OneRow.{InsertsAfter}
use Rattle.db_write.proofs.InsertedRows.{inserted_last, last_unread}
use Rattle.db_write.proofs.Looping.{after_reading}
use Rattle.db_write.proofs.inserting.insert_row.Goals as goal

pub returns-in_err-last-clause-inserted : goal.returns-in_err-last-clause-inserted
returns-in_err-last-clause-inserted g c = λ told.
    (let pages = g.P.Pages in
    last_unread (pages.map c.args.pages.now) (pages.limits (pages.below c.args.pages.now)).page c.args.table.now c.args.places.now c.args.given.now (pages.map c.last_for.new.pages)
    c.in_err-last.field-0.0 c.from_residual.result c.from_residual.ensures.1 (c.in_err-last.ensures.found told))

pub returns-clause-inserted : goal.returns-clause-inserted
returns-clause-inserted g c = λ told.
    (let pages = g.P.Pages in
    let start = c.args.pages.now in
    let new = pages.map c.insert_after.new.pages in
    let size = (pages.limits (pages.below start)).page in
    let table = c.args.table.now in
    let places = c.args.places.now in
    let given = c.args.given.now in
    let last = c.in_ok-last.last in
    let result = c.insert_after.result in
    let stays = c.in_ok-last.ensures.stays in
    inserted_last (pages.map start) size table places given new last result (c.in_ok-last.ensures.found told)
    (after_reading pages.below pages.tells pages.limits pages.map start c.last_for.new.pages
    (λ (m : PageMap) (n : ℕ). InsertsAfter m new n table places given last result) stays.kept stays.same c.insert_after.ensures.inserted told))
