use Rattle.std.proofs.Common.{◌∙◌, w64}
use Rattle.std.proofs.lemmas.Int.{to_z-of_z}
use Rattle.tree_table.proofs.LeafRows.{row_at_leaf, says_rows}
use Rattle.tree_table.proofs.WaysDown.{said_rowids}
use Rattle.tree_table.proofs.reading.is_row_at.Goals as goal

pub returns-in-Ok-clause-found : goal.returns-in-Ok-clause-found
returns-in-Ok-clause-found g c = λ told held_is leaf whole is at.
    (let pages = g.P.Pages.map c.args.pages.now in
    let size = (g.P.Pages.limits (g.P.Pages.below c.args.pages.now)).page in
    let plain = to_z-of_z w64 c.args.rowid c.ranges.rowid in
    let says = says_rows pages size c.args.leaf c.loaded.result.now leaf is at (c.loaded.ensures ∙ held_is) in
    row_at_leaf is.said _ c.args.place c.args.rowid _ c.in-Ok.there plain (said_rowids pages size is.said leaf.rows is.rows) (c.in-Ok.ensures.only is.said says))

pub returns-in-Err-clause-found : goal.returns-in-Err-clause-found
returns-in-Err-clause-found g c = λ told held_is leaf whole is at.
    (let pages = g.P.Pages.map c.args.pages.now in
    let size = (g.P.Pages.limits (g.P.Pages.below c.args.pages.now)).page in
    absurd (c.in-Err.ensures.only is.said (says_rows pages size c.args.leaf c.loaded.result.now leaf is at (c.loaded.ensures ∙ held_is))))
