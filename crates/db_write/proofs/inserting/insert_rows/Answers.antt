use Rattle.std.proofs.Common.{ℕ, map}
use Rattle.pages.specs.Map.{PageMap}
use Rattle.row_scan.specs.Rows.{values_of}
use Rattle.db_write.specs.OneRow.{InsertsFrom}
use Rattle.db_write.proofs.InsertedRows.{inserted_from, no_last}
use Rattle.db_write.proofs.Looping.{after_reading}
use Rattle.db_write.proofs.inserting.insert_rows.Goals as goal

pub returns-in_err-last-clause-inserted : goal.returns-in_err-last-clause-inserted
returns-in_err-last-clause-inserted g c = λ told.
    (let pages = g.P.Pages in
    let insert = c.args.insert in
    no_last (pages.map c.args.pages.now) (pages.limits (pages.below c.args.pages.now)).page insert.table.now insert.places.items (map values_of insert.rows.items) (pages.map c.last.new.pages)
    c.in_err-last.field-0.0 c.from_residual.result c.from_residual.ensures.1 (c.in_err-last.ensures.found told))

pub returns-clause-inserted : goal.returns-clause-inserted
returns-clause-inserted g c = λ told.
    (let pages = g.P.Pages in
    let start = c.args.pages.now in
    let new = pages.map c.insert_from.new.pages in
    let size = (pages.limits (pages.below start)).page in
    let insert = c.args.insert in
    let table = insert.table.now in
    let last = c.in_ok-last.last in
    let result = c.insert_from.result in
    let stays = c.in_ok-last.ensures.stays in
    let inserts = after_reading pages.below pages.tells pages.limits pages.map start c.last.new.pages
    (λ (m : PageMap) (n : ℕ). InsertsFrom m new n table c.deref-2.result.now (map values_of c.deref-3.result.now) last result) stays.kept stays.same c.insert_from.ensures.inserted told in
    inserted_from (pages.map start) size table insert.places.items (map values_of insert.rows.items) new last result (c.in_ok-last.ensures.found told)
    (rw (c.deref-2.ensures.value, c.deref-3.ensures.value) at inserts))
