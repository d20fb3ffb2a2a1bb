use Rattle.std.proofs.Common.{ℤ, List, map, subst}
use Rattle.query_terms.specs.Rows.{row_at}
use Rattle.catalog.specs.Rows.{as_row}
use Rattle.row_change.specs.Taking.{MakesRows, without_rows}
use Rattle.row_change.proofs.Taken.{none_counted, these_taken}
use Rattle.row_change.proofs.taking.take_these.Goals as goal

pub returns-in_err-rowids-clause-taken : goal.returns-in_err-rowids-clause-taken
returns-in_err-rowids-clause-taken g c = λ told.
    (let pages = g.P.Pages in
    let old = pages.map c.args.pages.now in
    none_counted old old (pages.limits (pages.below c.args.pages.now)).page c.args.table (map (λ place. as_row (row_at c.args.rows.now place)) c.args.places.now)
    c.in_err-rowids.field-0.0 c.from_residual.result c.from_residual.ensures.1 c.in_err-rowids.ensures.refused)

pub returns-clause-taken : goal.returns-clause-taken
returns-clause-taken g c = λ told.
    (let pages = g.P.Pages in
    let old = pages.map c.args.pages.now in
    let new = pages.map c.take_rowids.new.pages in
    let size = (pages.limits (pages.below c.args.pages.now)).page in
    let table = c.args.table in
    let result = c.take_rowids.result in
    these_taken old new size table c.args.rows.now c.args.places.now c.in_ok-rowids.rowids.items result c.in_ok-rowids.ensures.rowids
    (subst (λ (rowids : List ℤ). MakesRows old new size table.root (without_rows rowids) result) c.deref.ensures.value (c.take_rowids.ensures.taken told)))
