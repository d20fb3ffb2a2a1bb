use Rattle.std.proofs.Common.{◌∙◌}
use Rattle.tree_index.proofs.Readings.{ok_is, not_refused, says_it}
use Rattle.tree_index.proofs.cells.child_of.Goals as goal

pub returns-in-Ok-clause-found : goal.returns-in-Ok-clause-found
returns-in-Ok-clause-found g c = λ told node whole says ours.
    ok_is _ _ (c.in-Ok.ensures.only node (says_it (g.P.Pages.map c.args.pages.now) c.args.number c.loaded.result.now node says (c.loaded.ensures ∙ c.in_ok-load.ensures.bytes told)) ours)

pub returns-in-Err-clause-found : goal.returns-in-Err-clause-found
returns-in-Err-clause-found g c = λ told node whole says ours.
    absurd (not_refused _ _ (c.in-Err.ensures.only node (says_it (g.P.Pages.map c.args.pages.now) c.args.number c.loaded.result.now node says (c.loaded.ensures ∙ c.in_ok-load.ensures.bytes told)) ours))
