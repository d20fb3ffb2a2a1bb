use Rattle.std.proofs.Common.{◌∙◌}
use Rattle.tree_table.proofs.Pieces.{says_it}
use Rattle.tree_table.proofs.LeafRows.{refused}
use Rattle.tree_table.proofs.StepsDown.{ok_is, not_refused}
use Rattle.tree_table.proofs.freeing.parts_of.Goals as goal

pub returns-in_err-load-clause-found : goal.returns-in_err-load-clause-found
returns-in_err-load-clause-found g c = λ told node whole says ours.
    refused _ _ c.in_err-load.field-0.0 c.from_residual.ensures.1 (c.in_err-load.ensures.refusal told (record { has = says.has; whole = whole c.args.number says.has }))

pub returns-in-Ok-clause-found : goal.returns-in-Ok-clause-found
returns-in-Ok-clause-found g c = λ told node whole says ours.
    ok_is _ _ (c.in-Ok.ensures.only node (says_it (g.P.Pages.map c.args.pages.now) c.args.number c.loaded.result.now node says (c.loaded.ensures ∙ c.in_ok-load.ensures.bytes told)) ours)

pub returns-in-Err-clause-found : goal.returns-in-Err-clause-found
returns-in-Err-clause-found g c = λ told node whole says ours.
    absurd (not_refused _ _ (c.in-Err.ensures.only node (says_it (g.P.Pages.map c.args.pages.now) c.args.number c.loaded.result.now node says (c.loaded.ensures ∙ c.in_ok-load.ensures.bytes told)) ours))
