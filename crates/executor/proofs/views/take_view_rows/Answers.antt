use Rattle.std.proofs.lemmas.Int.{to_z-of_z}
use Rattle.std.proofs.Common.{rules, SFits, w64, sym, subst, Ok, Err, IsTrue}
use Rattle.catalog.specs.Listed.{listed_in}
use Rattle.executor.specs.Listing.{TakesSchemaRow, TakesSchemaRows, rowids_on}
use Rattle.executor.proofs.SchemaTaking.{takes_more, takes_stop}
use Rattle.executor.proofs.views.take_view_rows.Goals as goal

pub returns-in_err-take_row-clause-taken : goal.returns-in_err-take_row-clause-taken
returns-in_err-take_row-clause-taken g c = λ told.
    (let pages = g.P.Pages in
    let v = c.args.view.now in
    let old = pages.map c.args.pages.now in
    let mid = pages.map c.take_row.new.pages in
    let size = (pages.limits (pages.below c.args.pages.now)).page in
    let f = c.in_err-take_row.field-0.0 in
    let fits : SFits w64 v.rowid = search rules in
    takes_stop old mid size v.rowid (rowids_on c.args.name.now (listed_in c.args.catalog.now).triggers) f c.from_residual.result c.from_residual.ensures.1
    (subst (λ z. TakesSchemaRow old mid size z (Err f)) (to_z-of_z w64 v.rowid fits) (c.in_err-take_row.ensures.taken told)))

pub returns-clause-taken : goal.returns-clause-taken
returns-clause-taken g c = λ told.
    (let pages = g.P.Pages in
    let v = c.args.view.now in
    let old = pages.map c.args.pages.now in
    let mid = pages.map c.take_row.new.pages in
    let new = pages.map c.take_trigger_rows.new.pages in
    let size = (pages.limits (pages.below c.args.pages.now)).page in
    let rowids = rowids_on c.args.name.now (listed_in c.args.catalog.now).triggers in
    let told_then = subst (λ k. IsTrue (pages.tells k)) (sym c.take_row.ensures.kept) told in
    let fits : SFits w64 v.rowid = search rules in
    takes_more old mid size v.rowid new rowids c.take_trigger_rows.result
    (subst (λ z. TakesSchemaRow old mid size z (Ok tt)) (to_z-of_z w64 v.rowid fits) (c.in_ok-take_row.ensures.taken told))
    (subst (λ k. TakesSchemaRows mid new (pages.limits k).page rowids c.take_trigger_rows.result) c.take_row.ensures.kept (rw (c.triggers.ensures) at (c.take_trigger_rows.ensures.taken told_then))))
