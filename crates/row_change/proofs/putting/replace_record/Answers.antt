use Rattle.std.proofs.Common.{rules, ◌∙◌, SFits, w64}
use Rattle.std.proofs.lemmas.Int.{to_z-of_z}
use Rattle.row_change.proofs.IntoTrees.{as_one}
use Rattle.row_change.proofs.putting.replace_record.Goals as goal

pub returns-clause-replaced : goal.returns-clause-replaced
returns-clause-replaced g c = λ told.
    (let pages = g.P.Pages in
    let old = pages.map c.args.pages.now in
    let new = pages.map c.change_rows.new.pages in
    let size = (pages.limits (pages.below c.args.pages.now)).page in
    let fits : SFits w64 c.args.row.rowid = search rules in
    as_one old new size c.args.root c.as_slice.result.now c.change_rows.result _ c.args.row.rowid c.args.row.payload (c.as_slice.ensures ∙ c.one.ensures) (to_z-of_z w64 c.args.row.rowid fits)
    (c.change_rows.ensures.changed told))
