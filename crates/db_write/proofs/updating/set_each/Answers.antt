use Rattle.std.proofs.Common.{ℕ, List, map, subst}
use Rattle.query_terms.specs.Rows.{row_at}
use Rattle.db_write.specs.OneRow.{TurnsFrom}
use Rattle.db_write.proofs.TurnedRows.{each_set, none_placed}
use Rattle.db_write.proofs.updating.set_each.Goals as goal

pub returns-in_err-places-clause-updated : goal.returns-in_err-places-clause-updated
returns-in_err-places-clause-updated g c = λ told loads.
    (let pages = g.P.Pages in
    let old = pages.map c.args.pages.now in
    none_placed old (pages.limits (pages.below c.args.pages.now)).page c.args.table.now c.args.condition.now c.args.sets.now c.args.rows.now loads old
    c.in_err-places.field-0.0 c.from_residual.result c.from_residual.ensures.1 c.in_err-places.ensures.places)

pub returns-clause-updated : goal.returns-clause-updated
returns-clause-updated g c = λ told loads.
    (let pages = g.P.Pages in
    let old = pages.map c.args.pages.now in
    let new = pages.map c.turn_from.new.pages in
    let size = (pages.limits (pages.below c.args.pages.now)).page in
    let table = c.args.table.now in
    let sets = c.args.sets.now in
    let rows = c.args.rows.now in
    let result = c.turn_from.result in
    each_set old size table c.args.condition.now sets rows loads new c.in_ok-places.places.items result c.in_ok-places.ensures.places
    (subst (λ (places : List ℕ). TurnsFrom old new size table sets (map (row_at rows) places) result) c.deref.ensures.value (c.turn_from.ensures.turned told)))
