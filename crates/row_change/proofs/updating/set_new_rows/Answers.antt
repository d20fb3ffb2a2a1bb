use Rattle.std.proofs.Common.{ℕ, List, map, subst}
use Rattle.query_terms.specs.Rows.{row_at}
use Rattle.row_change.specs.Updating.{SetsThese, TellsThese}
use Rattle.row_change.proofs.SetTrees.{meant_refused, none_changed, none_told}
use Rattle.row_change.proofs.updating.set_new_rows.Goals as goal

pub returns-in_err-places-clause-set : goal.returns-in_err-places-clause-set
returns-in_err-places-clause-set g c = λ told.
    (let pages = g.P.Pages in
    let table = c.args.table.now in
    let sets = c.args.sets.now in
    let condition = c.args.condition.now in
    let rows = c.args.rows.now in
    let old = pages.map c.args.pages.now in
    let fault = c.in_err-places.field-0.0 in
    none_changed table sets condition old old (pages.limits (pages.below c.args.pages.now)).page table.root rows
    fault c.from_residual.result c.from_residual.ensures.1 (meant_refused table sets condition rows fault c.in_err-places.ensures.places))

pub returns-in_err-places-clause-rows : goal.returns-in_err-places-clause-rows
returns-in_err-places-clause-rows g c =
    none_told c.args.table.now c.args.sets.now c.args.condition.now c.args.rows.now c.in_err-places.field-0.0 c.from_residual.result c.from_residual.ensures.1

pub returns-clause-set : goal.returns-clause-set
returns-clause-set g c = λ told.
    (let pages = g.P.Pages in
    let table = c.args.table.now in
    let rows = c.args.rows.now in
    let old = pages.map c.args.pages.now in
    let new = pages.map c.set_rows_at.new.pages in
    let size = (pages.limits (pages.below c.args.pages.now)).page in
    subst (λ (places : List ℕ). SetsThese old new size table.root table c.args.sets.now rows (map (row_at rows) places) c.set_rows_at.result) c.deref.ensures.value (c.set_rows_at.ensures.set told)
    c.args.condition.now c.in_ok-places.ensures.places)

pub returns-clause-rows : goal.returns-clause-rows
returns-clause-rows g c =
    let rows = c.args.rows.now in
    subst (λ (places : List ℕ). TellsThese c.args.table.now c.args.sets.now rows (map (row_at rows) places) c.set_rows_at.result) c.deref.ensures.value c.set_rows_at.ensures.rows
    c.args.condition.now c.in_ok-places.ensures.places
