use Rattle.std.proofs.Common.{sym, subst, IsTrue}
use Rattle.catalog.specs.Listed.{listed_in, rowids_in}
use Rattle.executor.specs.Listing.{TakesSchemaRows, rowids_on}
use Rattle.executor.proofs.SchemaTaking.{takes_only, takes_then}
use Rattle.executor.proofs.dropping.take_all_rows.Goals as goal

pub returns-in_err-take_rows-clause-taken : goal.returns-in_err-take_rows-clause-taken
returns-in_err-take_rows-clause-taken g c = λ told.
    (let pages = g.P.Pages in
    takes_only (pages.map c.args.pages.now) (pages.map c.take_rows.new.pages) (pages.limits (pages.below c.args.pages.now)).page (rowids_in c.args.table.now)
    (rowids_on c.args.name.now (listed_in c.args.catalog.now).triggers) c.in_err-take_rows.field-0.0 c.from_residual.result c.from_residual.ensures.1 (c.in_err-take_rows.ensures.taken told))

pub returns-clause-taken : goal.returns-clause-taken
returns-clause-taken g c = λ told.
    (let pages = g.P.Pages in
    let old = pages.map c.args.pages.now in
    let mid = pages.map c.take_rows.new.pages in
    let new = pages.map c.take_trigger_rows.new.pages in
    let size = (pages.limits (pages.below c.args.pages.now)).page in
    let rowids = rowids_on c.args.name.now (listed_in c.args.catalog.now).triggers in
    let told_then = subst (λ k. IsTrue (pages.tells k)) (sym c.take_rows.ensures.kept) told in
    takes_then old mid size (rowids_in c.args.table.now) rowids new c.take_trigger_rows.result (c.in_ok-take_rows.ensures.taken told)
    (subst (λ k. TakesSchemaRows mid new (pages.limits k).page rowids c.take_trigger_rows.result) c.take_rows.ensures.kept (rw (c.triggers.ensures) at (c.take_trigger_rows.ensures.taken told_then))))
