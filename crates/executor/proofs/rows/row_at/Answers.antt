use Rattle.std.proofs.Common.{rules, ℤ, SFits, subst, w64, Ok}
use Rattle.std.proofs.lemmas.Int.{to_z-of_z}
use Rattle.db_write.specs.Reading.{FindsOneRow}
use Rattle.executor.proofs.RowsInStores.{finds_in, finds_none}
use Rattle.executor.proofs.rows.row_at.Goals as goal

pub returns-in_err-rows-clause-found : goal.returns-in_err-rows-clause-found
returns-in_err-rows-clause-found g c = λ told.
    (let pages = g.P.Pages in
    finds_none (pages.map c.args.pages.now) (pages.limits (pages.below c.args.pages.now)).page c.args.table.now c.args.rowid c.in_err-rows.field-0.0 c.from_residual.result c.from_residual.ensures.1 (c.in_err-rows.ensures.found told))

pub returns-clause-found : goal.returns-clause-found
returns-clause-found g c = λ told.
    (let pages = g.P.Pages in
    let fits : SFits w64 c.args.rowid = search rules in
    finds_in (pages.map c.args.pages.now) (pages.limits (pages.below c.args.pages.now)).page c.args.table.now c.args.rowid c.in_ok-rows.rows c.first_copy.result (subst (λ (n : ℤ). FindsOneRow (pages.map c.args.pages.now) (pages.limits (pages.below c.args.pages.now)).page c.args.table.now n (Ok c.in_ok-rows.rows)) (to_z-of_z w64 c.args.rowid fits) (c.in_ok-rows.ensures.found told)) c.first_copy.ensures)
