use Rattle.std.proofs.Common.{rules, ◌≡◌, ◌∙◌, ◌++◌, ℤ, Ok, Err, ap, of_z, subst, to_z, w64, SFits}
use Rattle.std.proofs.lemmas.Int.{to_z-of_z}
use Rattle.row_scan.specs.Sources.{LoadsRowsAt}
use Rattle.row_search.proofs.Sought.{not_loaded, row_added}
use Rattle.row_search.proofs.rows.add_row.Goals as goal

pub returns-in_err-found-clause-added : goal.returns-in_err-found-clause-added
returns-in_err-found-clause-added g c = λ told.
    (let gs = g.P.Pages in
    let pages = gs.map c.args.pages.now in
    let size = (gs.limits (gs.below c.args.pages.now)).page in
    let fits : SFits w64 c.args.rowid = search rules in
    let same : to_z w64 (of_z w64 c.args.rowid) ≡ c.args.rowid = to_z-of_z w64 c.args.rowid fits in
    let loads : LoadsRowsAt pages size c.args.table c.args.rowid (Err c.in_err-found.field-0.0) =
    subst (λ (n : ℤ). LoadsRowsAt pages size c.args.table n (Err c.in_err-found.field-0.0)) same (c.in_err-found.ensures.loaded told) in
    not_loaded pages size c.args.table c.args.rowid c.args.rows.now.items c.args.rows.now.items c.in_err-found.field-0.0 c.from_residual.result loads c.from_residual.ensures.1)

pub returns-clause-added : goal.returns-clause-added
returns-clause-added g c = λ told.
    (let gs = g.P.Pages in
    let pages = gs.map c.args.pages.now in
    let size = (gs.limits (gs.below c.args.pages.now)).page in
    let fits : SFits w64 c.args.rowid = search rules in
    let same : to_z w64 (of_z w64 c.args.rowid) ≡ c.args.rowid = to_z-of_z w64 c.args.rowid fits in
    let loads : LoadsRowsAt pages size c.args.table c.args.rowid (Ok c.in_ok-found.found) =
    subst (λ (n : ℤ). LoadsRowsAt pages size c.args.table n (Ok c.in_ok-found.found)) same (c.in_ok-found.ensures.loaded told) in
    row_added pages size c.args.table c.args.rowid c.args.rows.now.items c.in_ok-found.found c.append.new.self.items loads (c.in_ok-append.ensures.items ∙ ap (λ l. c.args.rows.now.items ++ l) c.into_vec-items.ensures))
