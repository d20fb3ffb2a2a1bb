use Rattle.std.proofs.Common.{◌∙◌, Ok, Err, w64}
use Rattle.std.proofs.lemmas.Int.{to_z-of_z}
use Rattle.tree_table.proofs.StepsDown.{ok_is, not_refused, step_gives}
use Rattle.tree_table.proofs.Stayed.{stays_but, placed_other}
use Rattle.tree_table.proofs.way.step_from.Goals as goal

pub returns-in-Ok-clause-found : goal.returns-in-Ok-clause-found
returns-in-Ok-clause-found g c = λ told node numbers whole says numbered rising about.
    (let plain = to_z-of_z w64 c.args.rowid c.ranges.rowid in
    let bytes = c.loaded.ensures ∙ c.in_ok-load.ensures.bytes told in
    ok_is _ _ (step_gives (g.P.Pages.map c.args.pages.now) c.args.way c.args.rowid _ c.loaded.result.now (Ok c.in-Ok.step) plain bytes c.in-Ok.ensures.only node numbers says numbered rising about))

pub returns-in-Err-clause-found : goal.returns-in-Err-clause-found
returns-in-Err-clause-found g c = λ told node numbers whole says numbered rising about.
    (let plain = to_z-of_z w64 c.args.rowid c.ranges.rowid in
    let bytes = c.loaded.ensures ∙ c.in_ok-load.ensures.bytes told in
    absurd (not_refused _ _ (step_gives (g.P.Pages.map c.args.pages.now) c.args.way c.args.rowid _ c.loaded.result.now (Err c.in-Err.fault) plain bytes c.in-Err.ensures.only node numbers says numbered rising about)))

pub returns-in-Err-clause-stays : goal.returns-in-Err-clause-stays
returns-in-Err-clause-stays g c =
    let pages = g.P.Pages in
    stays_but pages.below pages.map pages.count pages.failures c.in_ok-load.field-0 c.at_page.result c.args.pages.now c.load.new.self c.in_ok-load.ensures.stays
    (placed_other c.args.way.page c.in-Err.fault c.at_page.result c.at_page.ensures c.in-Err.ensures.not_disk)
