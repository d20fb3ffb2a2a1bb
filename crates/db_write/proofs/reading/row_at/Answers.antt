use Rattle.std.proofs.Common.{rules, SFits, w64}
use Rattle.std.proofs.lemmas.Int.{to_z-of_z}
use Rattle.db_write.proofs.Needed.{same_source}
use Rattle.db_write.proofs.TakenRow.{found_at}
use Rattle.db_write.proofs.reading.row_at.Goals as goal

pub returns-clause-found : goal.returns-clause-found
returns-clause-found g c = λ told.
    (let pages = g.P.Pages in
    let old = pages.map c.args.pages.now in
    let size = (pages.limits (pages.below c.args.pages.now)).page in
    let table = c.args.table.now in
    let fits : SFits w64 c.args.rowid = search rules in
    found_at old size table c.source_of.result c.args.rowid _ c.source_rows_at.result (same_source table c.source_of.result c.source_of.ensures.root c.source_of.ensures.shape)
    (to_z-of_z w64 c.args.rowid fits) (c.source_rows_at.ensures.loaded told))
