use Rattle.std.proofs.Common.{◌∙◌}
use Rattle.tree_index.proofs.Readings.{ok_is, not_refused, says_it, entries_counted}
use Rattle.tree_index.proofs.cells.len_of.Goals as goal

pub returns-in-Ok-clause-counted : goal.returns-in-Ok-clause-counted
returns-in-Ok-clause-counted g c = λ told node entries whole has.
    (let pages = g.P.Pages.map c.args.pages.now in
    let size = (g.P.Pages.limits (g.P.Pages.below c.args.pages.now)).page in
    ok_is _ _ (c.in-Ok.ensures.only node (says_it pages c.args.number c.loaded.result.now node has.says (c.loaded.ensures ∙ c.in_ok-load.ensures.bytes told)))
    ∙ entries_counted pages size c.args.number node entries has)

pub returns-in-Err-clause-counted : goal.returns-in-Err-clause-counted
returns-in-Err-clause-counted g c = λ told node entries whole has.
    (let pages = g.P.Pages.map c.args.pages.now in
    absurd (not_refused _ _ (c.in-Err.ensures.only node (says_it pages c.args.number c.loaded.result.now node has.says (c.loaded.ensures ∙ c.in_ok-load.ensures.bytes told)))))
