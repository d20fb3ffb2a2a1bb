use Rattle.std.proofs.Common.{◌∙◌}
use Rattle.tree_page.specs.Node.{Keys}
use Rattle.tree_table.proofs.Pieces.{says_it}
use Rattle.tree_table.proofs.LeafRows.{refused}
use Rattle.tree_table.proofs.StepsDown.{ok_is, not_refused}
use Rattle.tree_table.proofs.freeing.child_of.Goals as goal

pub returns-in_err-load-clause-read : goal.returns-in_err-load-clause-read
returns-in_err-load-clause-read g c = λ told kids last whole says.
    refused _ _ c.in_err-load.field-0.0 c.from_residual.ensures.1 (c.in_err-load.ensures.refusal told (record { has = says.has; whole = whole c.args.number says.has }))

pub returns-in-Ok-clause-read : goal.returns-in-Ok-clause-read
returns-in-Ok-clause-read g c = λ told kids last whole says.
    ok_is _ _ (c.in-Ok.ensures.only kids last (says_it (g.P.Pages.map c.args.pages.now) c.args.number c.loaded.result.now (Keys kids last) says (c.loaded.ensures ∙ c.in_ok-load.ensures.bytes told)))

pub returns-in-Err-clause-read : goal.returns-in-Err-clause-read
returns-in-Err-clause-read g c = λ told kids last whole says.
    absurd (not_refused _ _ (c.in-Err.ensures.only kids last (says_it (g.P.Pages.map c.args.pages.now) c.args.number c.loaded.result.now (Keys kids last) says (c.loaded.ensures ∙ c.in_ok-load.ensures.bytes told))))
