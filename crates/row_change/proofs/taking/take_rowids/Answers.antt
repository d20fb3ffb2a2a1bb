use Rattle.std.proofs.Common.{subst}
use Rattle.tree_table.specs.Calls.{ChangesRows}
use Rattle.row_change.specs.Taking.{without_rows}
use Rattle.row_change.proofs.Taken.{as_made, none_made}
use Rattle.row_change.proofs.taking.take_rowids.Goals as goal

pub returns-in_err-changes-clause-taken : goal.returns-in_err-changes-clause-taken
returns-in_err-changes-clause-taken g c = λ told.
    (let pages = g.P.Pages in
    let old = pages.map c.args.pages.now in
    none_made old old (pages.limits (pages.below c.args.pages.now)).page c.args.root (without_rows c.args.rowids.now)
    c.in_err-changes.field-0.0 c.from_residual.result c.from_residual.ensures.1 c.in_err-changes.ensures.refused)

pub returns-clause-taken : goal.returns-clause-taken
returns-clause-taken g c = λ told.
    (let pages = g.P.Pages in
    let old = pages.map c.args.pages.now in
    let new = pages.map c.change_rows.new.pages in
    let size = (pages.limits (pages.below c.args.pages.now)).page in
    let root = c.args.root in
    let changed = subst (λ them. ChangesRows old new size root them c.change_rows.result) c.deref.ensures.value (c.change_rows.ensures.changed told) in
    as_made old new size root c.in_ok-changes.changes.items c.args.rowids.now c.change_rows.result c.in_ok-changes.ensures.made changed)
