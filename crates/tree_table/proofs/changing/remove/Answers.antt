use Rattle.std.proofs.Common.{◌∷◌, [], ℤ, w64, Ok, Err, subst}
use Rattle.std.proofs.lemmas.Int.{to_z-of_z}
use Rattle.tree_table.specs.Runs.{RunsAt}
use Rattle.tree_table.proofs.ChangedRuns.{removed_or, removal}
use Rattle.tree_table.proofs.Exits.{full_err}
use Rattle.tree_table.proofs.changing.remove.Goals as goal

pub returns-in_err-there-clause-removed : goal.returns-in_err-there-clause-removed
returns-in_err-there-clause-removed g c = λ told rows used free is.
    (let pages = g.P.Pages in
    let old = pages.map c.args.pages.now in
    let size = (pages.limits (pages.below c.args.pages.now)).page in
    let root = c.args.root in
    let rowid = c.args.rowid in
    let new = pages.map c.change_run.new.pages in
    let plain = to_z-of_z w64 c.args.rowid c.ranges.rowid in
    full_err _ c.from_residual.result c.in_err-there.field-0.0 c.from_residual.ensures.1
    (subst (λ (z : ℤ). RunsAt old new size root z (removal rowid ∷ []) (Err c.in_err-there.field-0.0)) plain (c.in_err-there.ensures.changed told) rows used free is))

pub returns-clause-removed : goal.returns-clause-removed
returns-clause-removed g c = λ told rows used free is.
    (let pages = g.P.Pages in
    let old = pages.map c.args.pages.now in
    let size = (pages.limits (pages.below c.args.pages.now)).page in
    let root = c.args.root in
    let rowid = c.args.rowid in
    let new = pages.map c.change_run.new.pages in
    let plain = to_z-of_z w64 c.args.rowid c.ranges.rowid in
    let some = c.in_ok-there.ensures.some in
    let runs = subst (λ (z : ℤ). RunsAt old new size root z (removal z ∷ []) (Ok (c.in_ok-there.field-0-0, c.in_ok-there.there))) plain (c.in_ok-there.ensures.changed told) rows used free is in
    removed_or old new size root rowid rows used free c.in_ok-there.field-0-0 c.in_ok-there.there some.0 some.1 runs)
