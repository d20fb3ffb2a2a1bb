use Rattle.std.proofs.Common.{◌∙◌}
use Rattle.tree_table.proofs.Lasts.{last_read}
use Rattle.tree_table.proofs.LeafRows.{says_rows}
use Rattle.tree_table.proofs.StepsDown.{not_refused}
use Rattle.tree_table.proofs.reading.last_row.Goals as goal

pub returns-in-Ok-clause-found : goal.returns-in-Ok-clause-found
returns-in-Ok-clause-found g c = λ told leaf whole is at.
    (let pages = g.P.Pages.map c.args.pages.now in
    let size = (g.P.Pages.limits (g.P.Pages.below c.args.pages.now)).page in
    let says = says_rows pages size c.args.leaf c.loaded.result.now leaf is at (c.loaded.ensures ∙ c.in_ok-load.ensures.bytes told) in
    last_read pages size is.said leaf.rows c.in-Ok.last is.rows (c.in-Ok.ensures.only is.said says))

pub returns-in-Err-clause-found : goal.returns-in-Err-clause-found
returns-in-Err-clause-found g c = λ told leaf whole is at.
    (let pages = g.P.Pages.map c.args.pages.now in
    let size = (g.P.Pages.limits (g.P.Pages.below c.args.pages.now)).page in
    absurd (not_refused _ _ (c.in-Err.ensures.only is.said (says_rows pages size c.args.leaf c.loaded.result.now leaf is at (c.loaded.ensures ∙ c.in_ok-load.ensures.bytes told)))))
