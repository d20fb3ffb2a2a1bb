use Rattle.tree_index.proofs.Removed.{one_refused, one_removed}
use Rattle.tree_index.proofs.removing.remove.Goals as goal

pub returns-in_err-removed-clause-removed : goal.returns-in_err-removed-clause-removed
returns-in_err-removed-clause-removed g c = λ told.
    (let gs = g.P.Pages in
    let old = c.args.pages.now in
    one_refused (gs.map old) (gs.map c.removed.new.pages) (gs.limits (gs.below old)).page c.args.root c.args.columns.now c.args.entry.now c.in_err-removed.field-0.0 (c.in_err-removed.ensures.removed told)
    c.from_residual.result c.from_residual.ensures.1)

pub returns-clause-removed : goal.returns-clause-removed
returns-clause-removed g c = λ told.
    (let gs = g.P.Pages in
    let old = c.args.pages.now in
    one_removed (gs.map old) (gs.map c.removed.new.pages) (gs.limits (gs.below old)).page c.args.root c.args.columns.now c.args.entry.now c.in_ok-removed.field-0 c.is_some.result c.is_some.ensures (c.in_ok-removed.ensures.removed told))
